pub mod Abstract
pub mod Steps
pub mod Push
pub mod Put
pub mod Splits
pub mod Grow
pub mod Inserts
pub mod Example
