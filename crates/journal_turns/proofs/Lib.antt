pub mod Reading
pub mod Fits
pub mod Turns
pub mod Runs
pub mod Takes
