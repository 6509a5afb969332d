pub mod Over
pub mod Ends
pub mod Lowest
pub mod Wanted
