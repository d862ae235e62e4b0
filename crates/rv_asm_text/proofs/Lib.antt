pub mod Bits
pub mod Customs
pub mod Fillings
