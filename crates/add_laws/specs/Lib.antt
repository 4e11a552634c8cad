pub mod Room
pub mod Insert
pub mod Add
