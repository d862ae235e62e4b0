mod EdgeLists
mod Paths
mod BoundTests
mod Balances
mod Faultless
mod LineCounts
mod OneFault
mod Answering
pub mod Decoded
pub mod Kept
pub mod KindNames
pub mod Lined
pub mod Lists
pub mod Outcomes
pub mod Printed
pub mod Problems
pub mod Shown
pub mod Viable
pub mod Walked
pub mod Wordings
pub mod Verdicts
