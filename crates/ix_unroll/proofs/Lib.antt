pub mod Typed
pub mod Assigning
pub mod Literals
pub mod Mapped
pub mod Turned
pub mod Marks
pub mod Going
pub mod Statements
pub mod Texts
pub mod Flat
pub mod TurnLaws
mod MarkLaws
