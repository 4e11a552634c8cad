pub mod Runs
pub mod Fits
pub mod Nodes
