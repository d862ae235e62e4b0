pub mod Operations
pub mod Computing
pub mod Effects
