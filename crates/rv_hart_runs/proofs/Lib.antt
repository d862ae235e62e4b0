mod StatesLists
mod StatesSwaps
mod StatesParts
mod StatesWords
mod StatesTargets
mod StatesSteps
mod StatesEvents
mod StatesOwed
mod StatesKept
mod StatesOrdered
mod StatesFew
mod States
pub mod Apart
pub mod Calm
pub mod Fitting
pub mod Free
pub mod Going
pub mod Knowing
pub mod Known
pub mod Moving
pub mod Passing
pub mod Settled
pub mod UnitSlots
pub mod Holding
pub mod Frozen
