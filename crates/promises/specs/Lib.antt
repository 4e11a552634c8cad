pub mod Tables
pub mod Answers
pub mod Calls
pub mod Sound
pub mod Store
pub mod Readings
pub mod Relation
