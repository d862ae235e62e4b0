pub mod Numbering
pub mod Entries
pub mod Timed
pub mod Slots
pub mod Reservations
pub mod Standing
pub mod Surveys
pub mod UnitLaws
