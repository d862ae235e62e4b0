pub mod Choosing
pub mod InRange
pub mod Drawn
pub mod Below
pub mod Counting
