pub mod Fronts
pub mod Numbers
pub mod Symbols
pub mod Openings
pub mod Refusals
