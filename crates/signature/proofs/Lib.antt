pub mod Examples
pub mod Folded
pub mod Rows
pub mod Below
pub mod Most
