pub mod Console
pub mod Laws
