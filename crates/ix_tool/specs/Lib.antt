pub mod PlainDesign
pub mod CommandOutput
pub mod BarrelOutput
