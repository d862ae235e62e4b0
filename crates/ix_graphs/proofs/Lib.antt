pub mod Bridging
mod Told
