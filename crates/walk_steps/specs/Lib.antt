pub mod Given
pub mod Walks
pub mod Turn
pub mod Stack
pub mod Place
