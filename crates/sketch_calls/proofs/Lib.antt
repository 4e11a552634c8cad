pub mod Answers
pub mod Measuring
