pub mod Sound
pub mod Needed
pub mod Path
pub mod Block
pub mod Walk
