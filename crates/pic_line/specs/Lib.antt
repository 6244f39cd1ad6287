pub mod CommandLine
pub mod Taken
