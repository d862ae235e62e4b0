pub mod BitLemmas
pub mod FieldLemmas
pub mod MaskLemmas
pub mod Positions
pub mod RoundLemmas
pub mod RowLemmas
pub mod SignLemmas
pub mod TableLemmas
