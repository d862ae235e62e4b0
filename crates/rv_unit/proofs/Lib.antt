pub mod Finishing
pub mod Moving
pub mod Showing
pub mod Fewer
pub mod Numbered
pub mod Surveying
pub mod Cycling
