pub mod Gathering
pub mod Closed
pub mod Living
pub mod Fresh
pub mod Printing
pub mod Walking
pub mod Staying
pub mod Beside
