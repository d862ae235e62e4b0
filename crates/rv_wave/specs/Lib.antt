pub mod Sent
pub mod Waves
