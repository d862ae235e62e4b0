mod Deciding
mod Legal
mod Boxes
mod Existing
