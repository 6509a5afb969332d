pub mod Peer
pub mod Owners
pub mod Registers
pub mod Devices
pub mod Through
pub mod Quiet
