pub mod Reports
pub mod Turns
pub mod Printed
pub mod OneAnswer
pub mod Own
