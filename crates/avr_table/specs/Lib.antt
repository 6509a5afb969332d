pub mod Row
pub mod Rows
pub mod Decoded
pub mod WellFormed
pub mod Words
pub mod Nest
