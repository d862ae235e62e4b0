pub mod Encodings
pub mod Rests
pub mod Gathered
pub mod Wholes
