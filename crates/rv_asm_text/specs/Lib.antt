pub mod Customs
pub mod Filling
pub mod Indexing
pub mod Lines
pub mod Names
pub mod Numbers
pub mod Operands
