pub mod Assembly
pub mod Echo
pub mod Frames
pub mod Generator
