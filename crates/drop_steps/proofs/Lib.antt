pub mod Admits
pub mod Blocks
