pub mod Residuals
pub mod Balances
pub mod Counts
