pub mod Paths
pub mod Meets
pub mod Sound
pub mod Complete
pub mod Lists
pub mod Numbers
