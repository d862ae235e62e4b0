pub mod Passing
pub mod ResultTypes
pub mod Branches
