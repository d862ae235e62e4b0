pub mod Units
pub mod Owing
pub mod Kept
