pub mod Kept
pub mod Found
pub mod Made
pub mod Spawned
pub mod Elements
