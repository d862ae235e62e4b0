mod Additions
mod Windows
