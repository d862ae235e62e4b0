pub mod Guesses
pub mod Stages
pub mod Kinds
