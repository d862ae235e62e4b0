pub mod Masks
pub mod GateLemmas
pub mod RunLemmas
pub mod LoadLemmas
pub mod StateLemmas
pub mod Simulating
pub mod Marking
