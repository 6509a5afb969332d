mod CommonPlaces
pub mod Steps
