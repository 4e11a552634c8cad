pub mod Left
pub mod Going
pub mod Pages
pub mod Tables
pub mod Exact
pub mod Batches
pub mod AllBlocks
