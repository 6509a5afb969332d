pub mod Registers
pub mod BitNames
pub mod Vectors
pub mod Bits
pub mod Laws
