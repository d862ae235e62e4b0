pub mod OneExtension
pub mod Texts
