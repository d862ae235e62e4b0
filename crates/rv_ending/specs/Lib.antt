pub mod Differing
pub mod Owed
