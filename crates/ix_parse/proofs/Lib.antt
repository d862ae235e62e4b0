mod Places
mod Runs
mod Answering
mod Deeper
