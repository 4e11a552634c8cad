pub mod Hit
pub mod Filter
pub mod Wanted
pub mod Example
