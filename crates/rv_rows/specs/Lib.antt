pub mod Facts
pub mod Recorded
pub mod Gone
pub mod Made
pub mod Kinds
pub mod Laws
pub mod Known
