pub mod BlockEnds
pub mod Bytes
pub mod Lists
pub mod Packed
pub mod Passes
pub mod Places
pub mod Runs
pub mod Width
