pub mod Numerals
pub mod Fronts
pub mod Cuts
pub mod Widths
pub mod Found
