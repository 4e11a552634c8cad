pub mod Take
pub mod Prune
pub mod Remove
