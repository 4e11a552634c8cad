pub mod Claims
pub mod Cells
pub mod Within
pub mod LiveBytes
pub mod Same
