pub mod Model
pub mod Descend
