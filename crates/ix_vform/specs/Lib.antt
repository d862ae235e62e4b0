pub mod Added
pub mod Based
pub mod Found
pub mod Kept
pub mod Reach
pub mod Roles
