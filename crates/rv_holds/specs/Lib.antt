pub mod Tokens
pub mod Forwarding
pub mod Holds
pub mod Flushing
pub mod Meets
