pub mod Graphed
