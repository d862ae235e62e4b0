pub mod Running
pub mod Ports
pub mod Placing
mod Making
