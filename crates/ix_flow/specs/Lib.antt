pub mod Orders
pub mod Searches
pub mod Flows
pub mod Operands
pub mod Rooted
