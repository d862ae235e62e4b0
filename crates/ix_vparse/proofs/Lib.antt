pub mod Reading
pub mod Taking
mod Sides
