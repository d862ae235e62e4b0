pub mod Machines
pub mod Nth
pub mod Texts
