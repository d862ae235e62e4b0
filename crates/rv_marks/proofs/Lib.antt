mod Cells
mod Moved
mod Fetched
mod Younger
mod Succeeded
mod Stopped
mod Stilled
