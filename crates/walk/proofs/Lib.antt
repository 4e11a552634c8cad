pub mod Spend
pub mod Waiting
pub mod Run
pub mod Batches
pub mod Going
