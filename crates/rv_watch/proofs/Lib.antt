mod Tests
mod Steps
mod Serials
mod Cells
mod Gone
mod Executed
mod Retired
mod Writing
mod Telling
mod Going
pub mod Keeping
mod SeenTests
mod Entries
mod Lowered
mod Placed
mod Counting
mod Asking
mod Marking
mod Adding
mod SeenMore
pub mod Making
pub mod Folding
mod Audited
mod Hexes
mod Retirements
mod States
mod CountingText
mod Committed
mod Asked
mod Named
mod Lines
mod Recorded
mod Behind
mod Texts
mod Whole
mod Late
mod Fitting
pub mod Stepping
pub mod Registers
pub mod FitSettings
