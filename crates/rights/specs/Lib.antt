pub mod Register
pub mod Open
pub mod Entries
pub mod Holders
pub mod Changes
