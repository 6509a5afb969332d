pub mod Digits
pub mod Flash
pub mod Reading
pub mod Record
pub mod Store
pub mod Text
