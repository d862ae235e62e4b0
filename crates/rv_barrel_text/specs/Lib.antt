pub mod BarrelRowText
pub mod BarrelText
