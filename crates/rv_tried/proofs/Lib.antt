mod Alone
pub mod Stepping
pub mod Wholes
