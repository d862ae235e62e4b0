pub mod Fitting
pub mod Going
pub mod KindLines
pub mod Standing
