pub mod Few
pub mod Causes
pub mod Stops
pub mod Unique
