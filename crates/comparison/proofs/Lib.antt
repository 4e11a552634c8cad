pub mod Shapes
pub mod Verdicts
