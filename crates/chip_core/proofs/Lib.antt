mod Opens
mod Quiet
mod Counting
mod Reserved
pub mod Reaching
