pub mod InWord
pub mod Apart
