mod Lists
mod Starts
mod Reaching
mod Trails
mod ChainLists
mod BoundLists
pub mod Places
mod EdgeRelation
