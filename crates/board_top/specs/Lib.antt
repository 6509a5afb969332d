pub mod Tops
pub mod Complete
