pub mod BySigns
pub mod Smallest
