pub mod Each
mod Others
pub mod Parts
mod Readings
pub mod EachLine
mod Replays
mod Together
mod ToldLine
mod ToldLines
pub mod Weights
pub mod ToldLaws
