pub mod Sheets
pub mod Schedules
pub mod Bounds
pub mod Behaviours
pub mod Laws
pub mod Datasheets
pub mod Reading
pub mod BehaviourLaws
