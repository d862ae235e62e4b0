pub mod Visiting
pub mod Searching
pub mod Graphing
pub mod Rooting
pub mod Sounding
pub mod Flowing
