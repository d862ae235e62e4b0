pub mod Resolving
pub mod FlagLists
