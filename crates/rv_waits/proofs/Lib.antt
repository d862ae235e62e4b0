mod Bounds
mod Ascents
