pub mod PlaceTable
mod Steps
pub mod BitBytes
pub mod History
