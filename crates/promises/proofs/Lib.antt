pub mod Numbers
pub mod Readings
pub mod Kept
pub mod Stores
