pub mod Bits
pub mod Registers
pub mod Sense
pub mod Ports
pub mod Levels
pub mod Requests
pub mod Writes
pub mod Laws
