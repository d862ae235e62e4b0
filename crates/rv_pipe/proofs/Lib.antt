mod Fitting
mod FewUnits
mod Lengths
pub mod Nths
mod Sound
mod Stated
mod Texts
pub mod Reaching
