pub mod Commands
pub mod Desk
