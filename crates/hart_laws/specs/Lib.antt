pub mod Hands
pub mod Adding
pub mod Spawning
pub mod Jumping
pub mod Texts
