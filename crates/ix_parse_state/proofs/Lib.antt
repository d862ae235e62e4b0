pub mod Stacks
pub mod Settling
pub mod Expressions
pub mod Blocks
pub mod Nestings
