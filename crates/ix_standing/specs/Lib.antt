pub mod Standing
pub mod Served
