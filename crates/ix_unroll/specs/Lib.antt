pub mod Scopes
pub mod Values
pub mod Turning
pub mod Telling
pub mod Laws
