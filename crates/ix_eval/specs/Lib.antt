pub mod Sizes
pub mod Tables
pub mod Readings
pub mod Evaluated
pub mod Numbered
pub mod Scratches
