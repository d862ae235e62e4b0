pub mod Parts
pub mod Dump
pub mod Laws
pub mod Hand
