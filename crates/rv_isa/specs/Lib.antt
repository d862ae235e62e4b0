pub mod Decoded
pub mod Encoded
pub mod Fields
pub mod Table
pub mod Images
pub mod RowNames
