pub mod Fronts
pub mod Graphs
pub mod Orders
pub mod Searches
pub mod Loops
pub mod Laws
pub mod Told
pub mod Spots
