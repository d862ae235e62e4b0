pub mod Listing
pub mod RefusalLine
