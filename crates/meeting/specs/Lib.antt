pub mod Meets
pub mod Mets
pub mod Turns
pub mod Held
pub mod Chains
