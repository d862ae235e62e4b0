pub mod Words
pub mod Lines
pub mod Subset
pub mod Laws
