pub mod Uses
pub mod Found
