mod Parts
mod Scans
mod Marking
mod Leaving
mod Putting
mod Looking
mod Knowing
mod Naming
pub mod Denoted
pub mod Places
mod Spots
