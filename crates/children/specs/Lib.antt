pub mod Heap
pub mod Phys
pub mod Places
pub mod Links
pub mod Order
pub mod Cursors
pub mod Held
