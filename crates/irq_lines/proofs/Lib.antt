mod Bytes
pub mod Following
