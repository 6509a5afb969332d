pub mod Bytes
pub mod Pins
pub mod Edges
pub mod Alone
