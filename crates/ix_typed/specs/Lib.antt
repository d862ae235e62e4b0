pub mod Expressions
pub mod Assignments
pub mod Statements
pub mod Texts
pub mod Laws
