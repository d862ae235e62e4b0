pub mod Drawing
pub mod DrawnImage
pub mod Words
pub mod Summary
