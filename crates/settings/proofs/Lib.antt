pub mod Tests
pub mod Written
