pub mod Entries
pub mod Trace
pub mod Judged
pub mod Shown
pub mod Laws
pub mod Views
pub mod Run
