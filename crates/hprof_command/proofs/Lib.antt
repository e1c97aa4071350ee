pub mod CommandWords
pub mod CommandLine
