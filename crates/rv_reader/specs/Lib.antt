pub mod Words
pub mod Rows
pub mod Writes
pub mod Forms
pub mod Traces
pub mod ReadTexts
