pub mod Telling
pub mod Parted
