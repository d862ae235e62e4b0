pub mod Tried
pub mod Parts
pub mod Whole
