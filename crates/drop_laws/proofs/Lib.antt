pub mod Removes
pub mod Inside
pub mod Leaves
pub mod Admitted
pub mod Rest
pub mod Sounds
pub mod Promise
pub mod Example
