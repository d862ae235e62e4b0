pub mod Passing
pub mod Digits
pub mod Lists
pub mod Growing
