pub mod Turns
pub mod Widest
mod Naming
mod Exact
