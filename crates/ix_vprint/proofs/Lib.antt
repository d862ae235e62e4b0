pub mod Denoted
pub mod Followed
pub mod Laid
pub mod Nets
pub mod Sources
pub mod Spelled
pub mod Texts
pub mod Written
