pub mod Steps
pub mod Rounds
