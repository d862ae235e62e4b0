pub mod Moving
pub mod Counts
pub mod Ends
