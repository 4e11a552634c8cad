pub mod Meets
pub mod Bytes
