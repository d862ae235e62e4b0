pub mod Faults
pub mod Limits
pub mod Shelf
pub mod Sink
pub mod Out
pub mod SureSink
pub mod Calls
pub mod Mem
