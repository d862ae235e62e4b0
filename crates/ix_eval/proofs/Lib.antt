pub mod FirstReads
pub mod Clearing
pub mod EffectParts
pub mod NamedLoads
pub mod Same
pub mod Tables
mod Stepping
