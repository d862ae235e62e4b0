mod Hexes
mod Literals
mod Sides
mod One
mod Holding
pub mod Saying
pub mod Seen
mod Listed
mod Bridging
mod Modules
mod Once
pub mod Finishing
pub mod Denoting
mod Numbered
