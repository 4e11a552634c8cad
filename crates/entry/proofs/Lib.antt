pub mod Questions
pub mod Told
pub mod Admits
pub mod Enters
