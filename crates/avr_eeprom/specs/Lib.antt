pub mod Names
pub mod Cells
pub mod Eeprom
pub mod Laws
