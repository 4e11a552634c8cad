pub mod Exist
pub mod Example
