pub mod Behaviours
pub mod Flags
pub mod Laws
pub mod Accesses
pub mod Tables
