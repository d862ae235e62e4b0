pub mod Standing
pub mod KeptWires
pub mod Outputs
pub mod Uses
