pub mod Findings
pub mod Lines
pub mod Refusals
pub mod Shown
