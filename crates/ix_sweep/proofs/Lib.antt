pub mod Later
mod Feasible
pub mod Widest
pub mod Entries
