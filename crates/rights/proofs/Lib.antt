pub mod Any
pub mod Ranges
pub mod Register
pub mod Open
pub mod Renewed
pub mod Rest
pub mod Kept
pub mod Repeat
pub mod Pairs
pub mod Holders
pub mod Words
mod Example
