pub mod Count
pub mod Few
