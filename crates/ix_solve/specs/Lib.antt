pub mod Search
pub mod Networks
pub mod Forests
pub mod Answers
pub mod Flows
pub mod State
