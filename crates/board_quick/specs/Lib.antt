pub mod Words
pub mod Ends
pub mod Checked
pub mod Reads
pub mod Loads
pub mod Runs
pub mod Outcome
