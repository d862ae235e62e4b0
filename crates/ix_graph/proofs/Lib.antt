pub mod Positions
pub mod KindLemmas
pub mod SameKinds
