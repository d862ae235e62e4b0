pub mod Choosing
pub mod Widening
