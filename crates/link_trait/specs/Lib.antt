pub mod Routes
pub mod Calls
pub mod Shown
