pub mod Stack
pub mod Turns
pub mod Example
