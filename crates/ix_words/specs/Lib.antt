pub mod Codes
pub mod CommandLine
pub mod Readings
pub mod WordsRead
