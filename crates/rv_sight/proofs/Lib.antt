mod Parts
mod Asking
mod Base
mod Coming
mod Plans
mod Timing
mod Seeing
mod Sights
mod Jumping
pub mod Natively
mod Units
mod Lasting
mod Targets
mod Having
