pub mod Scripts
pub mod Acting
pub mod Kept
pub mod Play
pub mod Start
pub mod Ends
pub mod Links
