pub mod Ports
pub mod Worked
