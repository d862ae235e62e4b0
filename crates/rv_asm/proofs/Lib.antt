pub mod Assembling
mod Decoding
mod Wholes
pub mod Placing
pub mod ImageLemmas
pub mod Printed
pub mod Results
pub mod NumberLemmas
pub mod WaitLemmas
pub mod LineLemmas
pub mod Eachwise
pub mod Noting
pub mod Small
