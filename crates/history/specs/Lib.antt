pub mod History
pub mod Leaves
