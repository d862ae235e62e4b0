pub mod Constraints
pub mod Reaches
