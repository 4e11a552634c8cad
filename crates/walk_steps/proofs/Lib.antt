pub mod Stack
pub mod Turns
