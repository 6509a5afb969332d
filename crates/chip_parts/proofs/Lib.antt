mod Reading
pub mod Eight
pub mod Stepping
pub mod Assembly
pub mod Buffers
pub mod Outcomes
mod Settling
mod Commands
pub mod Closed
mod Resetting
mod Sizing
mod Passing
mod Taking
mod SendCommands
mod RecvCommands
