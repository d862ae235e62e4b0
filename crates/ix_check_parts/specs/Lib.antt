pub mod Telling
pub mod StateTelling
