pub mod Naming
pub mod Growth
pub mod Operands
pub mod Pairs
pub mod Moves
pub mod Tables
