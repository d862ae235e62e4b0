pub mod Existence
