pub mod Named
pub mod OneGraph
pub mod Turns
pub mod Sound
pub mod OneAnswer
pub mod Telling
