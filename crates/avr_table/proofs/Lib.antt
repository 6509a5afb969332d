pub mod Alike
pub mod Lower
pub mod Constants
pub mod Middle
pub mod Upper
pub mod Rows
pub mod Long
