pub mod Nodes
pub mod NodeLaws
pub mod Stores
pub mod Places
pub mod Targets
pub mod Ends
pub mod Effected
