pub mod Chains
pub mod Bytes
