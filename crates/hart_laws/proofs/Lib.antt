mod AddingRows
mod SpawningRows
mod JumpingRows
mod PrintedRows
