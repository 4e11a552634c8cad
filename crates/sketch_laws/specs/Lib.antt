pub mod Packed
pub mod Paths
