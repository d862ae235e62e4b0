pub mod Among
pub mod Entering
pub mod Following
pub mod Removing
pub mod Finishing
pub mod Going
