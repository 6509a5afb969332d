pub mod Verdicts
pub mod FirstLine
mod Others
mod Readings
pub mod Wrongs
mod Stepping
mod Weights
