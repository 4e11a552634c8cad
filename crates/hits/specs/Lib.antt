pub mod Hit
pub mod Probes
pub mod Trials
