pub mod Building
pub mod Answers
pub mod Room
