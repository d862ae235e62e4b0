pub mod Trace
pub mod RowParts
pub mod Progress
pub mod TraceText
pub mod History
