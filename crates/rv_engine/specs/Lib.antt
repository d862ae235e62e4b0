pub mod Settings
pub mod Owing
pub mod Places
pub mod Rows
pub mod Showing
pub mod Kept
