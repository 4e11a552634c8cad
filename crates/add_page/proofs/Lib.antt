pub mod Blocks
pub mod Puts
