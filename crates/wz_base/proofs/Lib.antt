mod SoFar
mod Named
pub mod Gathered
