mod Slots
mod Apart
