pub mod Trees
pub mod Shaped
pub mod Uses
pub mod Plain
pub mod Codes
pub mod Sram
