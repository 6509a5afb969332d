pub mod Causes
pub mod Scheduled
pub mod Reported
pub mod Shown
pub mod Loaded
mod Answered
