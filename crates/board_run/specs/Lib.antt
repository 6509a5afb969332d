pub mod Wires
pub mod Sides
pub mod Printing
pub mod Going
pub mod Ran
pub mod Closing
pub mod Lives
pub mod Leaving
