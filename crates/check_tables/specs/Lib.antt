pub mod Pages
pub mod Free
