mod Mirror
pub mod Time
