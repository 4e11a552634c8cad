pub mod Pass
pub mod Settings
