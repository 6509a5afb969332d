pub mod Cutting
mod Others
