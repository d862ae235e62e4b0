pub mod Drives
pub mod Seats
pub mod Inputs
pub mod Driven
pub mod Feeds
