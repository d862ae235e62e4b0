pub mod Slots
pub mod Reached
pub mod Laws
pub mod Picked
