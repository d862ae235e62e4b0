mod Tops
mod Powers
mod Deep
