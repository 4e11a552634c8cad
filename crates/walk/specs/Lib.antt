pub mod Leaves
pub mod Walk
pub mod Batch
pub mod Waiting
