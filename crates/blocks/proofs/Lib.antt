pub mod Bytes
pub mod RowBytes
pub mod BlockBytes
pub mod Written
pub mod Tables
