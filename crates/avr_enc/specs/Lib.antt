pub mod Shapes
pub mod Words
pub mod Text
pub mod Syntax
