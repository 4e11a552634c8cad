pub mod LeafSteps
pub mod Steps
