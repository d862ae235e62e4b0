pub mod Driven
mod Keeping
pub mod Listed
pub mod Named
pub mod Texts
