pub mod Pages
pub mod Split
pub mod Insert
