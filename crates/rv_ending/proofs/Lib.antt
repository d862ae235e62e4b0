mod Common
mod Next
mod Pieces
