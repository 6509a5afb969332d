pub mod Connections
pub mod Tallies
pub mod Names
pub mod Pair
