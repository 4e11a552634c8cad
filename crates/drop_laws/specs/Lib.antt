pub mod Removal
pub mod After
