pub mod Grows
pub mod Way
