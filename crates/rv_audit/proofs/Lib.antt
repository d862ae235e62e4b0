mod Writes
mod Wrong
mod Forms
mod Told
mod Stoppers
mod Numbers
mod Causes
mod Ending
mod Ended
mod Rows
pub mod OnePlan
mod OneSetting
mod OneAnswer
