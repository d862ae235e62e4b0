pub mod Clearing
pub mod Places
pub mod Least
pub mod Spawns
