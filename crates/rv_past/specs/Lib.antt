pub mod Past
pub mod Steps
pub mod Due
pub mod Making
