pub mod StandardFiles
pub mod StandardOut
