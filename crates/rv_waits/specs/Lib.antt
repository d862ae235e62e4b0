pub mod Waits
pub mod Lines
