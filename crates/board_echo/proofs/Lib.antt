pub mod Decodes
pub mod Firmware
pub mod Images
pub mod Listings
pub mod Sayings
