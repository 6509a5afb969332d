pub mod Effects
pub mod LifeStops
pub mod Lives
pub mod Going
