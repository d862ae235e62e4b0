pub mod State
pub mod Wired
pub mod Marked
pub mod Simulated
