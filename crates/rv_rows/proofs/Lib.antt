pub mod Tests
pub mod Places
pub mod Coming
pub mod Ordered
pub mod Placed
pub mod Flushed
pub mod KnownRows
pub mod Knowing
mod Standing
mod Tails
mod Addresses
mod Succeeding
mod Addressed
mod RowLaws
mod GoneTests
mod GonePlaces
mod GoneComing
mod Leaving
mod Past
pub mod Upper
pub mod InUnits
pub mod Own
pub mod Stopping
pub mod Fetching
pub mod Holding
pub mod Moving
pub mod Together
pub mod Making
pub mod Lawful
pub mod Behind
