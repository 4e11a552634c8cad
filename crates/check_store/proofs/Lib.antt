pub mod Admitted
pub mod StoreSteps
pub mod Words
pub mod Right
pub mod Whole
pub mod Promise
