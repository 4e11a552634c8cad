pub mod Rising
pub mod Bits
pub mod Flags
pub mod Machine
