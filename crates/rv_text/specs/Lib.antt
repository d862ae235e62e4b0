pub mod RunText
pub mod Telling
