pub mod Makes
pub mod MakesSteps
pub mod Keeping
pub mod Finding
pub mod Chains
pub mod Spawns
pub mod Resolves
