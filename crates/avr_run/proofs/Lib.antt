pub mod Told
pub mod Runs
pub mod Played
pub mod Steps
