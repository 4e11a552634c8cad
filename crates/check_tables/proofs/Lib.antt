pub mod PageSteps
pub mod FreeSteps
pub mod LivePages
pub mod FreeChain
