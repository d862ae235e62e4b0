mod Ports
mod Reached
mod Sending
mod Lawful
