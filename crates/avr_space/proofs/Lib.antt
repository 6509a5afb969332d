pub mod Owners
pub mod Trees
pub mod Through
pub mod DeviceCalls
pub mod Drives
pub mod Quiet
