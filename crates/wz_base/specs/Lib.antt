pub mod Outside
pub mod Whole
pub mod Lines
pub mod Calls
pub mod Named
pub mod MemFiles
pub mod MemSink
