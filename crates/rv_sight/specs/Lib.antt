pub mod InUnits
pub mod Written
