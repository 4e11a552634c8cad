pub mod Places
pub mod Listable
pub mod Scopes
