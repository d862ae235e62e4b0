pub mod Scheduling
pub mod ScheduleText
pub mod Laws
