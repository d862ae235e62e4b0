pub mod Encodings
pub mod Extensions
pub mod Faults
pub mod WellFormed
pub mod Laws
