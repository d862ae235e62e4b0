pub mod Wide
pub mod Soundness
pub mod Customs
pub mod NamedAccesses
