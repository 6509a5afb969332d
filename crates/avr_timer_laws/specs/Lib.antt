pub mod Tick
pub mod Single
