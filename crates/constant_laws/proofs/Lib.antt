mod Literals
mod Values
