pub mod Sizes
pub mod Shift
pub mod Blocks
