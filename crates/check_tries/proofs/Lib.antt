pub mod Fits
pub mod WindowSteps
pub mod Tries
pub mod Passes
