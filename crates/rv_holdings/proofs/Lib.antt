mod Tests
mod FirstFrom
mod Ordering
pub mod Above
mod Past
mod Beside
mod Each
mod Least
mod Judged
mod Numbered
mod Reading
mod Executing
mod Ending
mod Showing
mod Whole
mod Stopped
