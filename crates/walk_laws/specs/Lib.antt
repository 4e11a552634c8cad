pub mod Near
pub mod Trail
pub mod Numbers
