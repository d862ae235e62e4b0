mod Names
mod Differing
mod Apart
pub mod OneText
