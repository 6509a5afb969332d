pub mod Holding
pub mod Settling
pub mod Passing
pub mod Writing
