pub mod Harts
pub mod Turns
pub mod Events
pub mod HartRows
pub mod BarrelRows
pub mod HartStates
pub mod BarrelLaws
