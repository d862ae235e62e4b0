pub mod BaseTable
pub mod formers
pub mod Types
pub mod NearTypes
pub mod Widths
pub mod ResultTypes
pub mod Operators
pub mod Laws
