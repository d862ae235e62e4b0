pub mod Operations
pub mod GraphEffects
pub mod Laws
