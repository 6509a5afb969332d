pub mod Places
pub mod Pushes
pub mod Search
pub mod Weight
