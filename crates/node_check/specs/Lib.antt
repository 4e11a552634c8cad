pub mod Mark
pub mod Given
pub mod Scope
pub mod Leaf
pub mod Frame
