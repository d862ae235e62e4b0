mod Agreeing
mod Blocks
mod Edges
mod Unspawned
mod Times
mod Single
mod Depending
