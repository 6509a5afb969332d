pub mod Fitting
pub mod Lent
pub mod Coming
pub mod Noting
