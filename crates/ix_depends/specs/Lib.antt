pub mod Depends
pub mod Laws
