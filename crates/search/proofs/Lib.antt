pub mod Enters
pub mod Queries
pub mod Finds
pub mod Promises
