pub mod Modules
pub mod Places
pub mod Kept
pub mod NetsLaw
