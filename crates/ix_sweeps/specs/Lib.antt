pub mod Sweeping
pub mod SweepText
pub mod Laws
