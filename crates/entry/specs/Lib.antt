pub mod Entry
pub mod Admission
