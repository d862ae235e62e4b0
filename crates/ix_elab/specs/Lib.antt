pub mod Elaborating
pub mod Refusing
