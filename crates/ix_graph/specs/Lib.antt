pub mod Kinds
pub mod Graphs
pub mod KindLaws
pub mod Roles
