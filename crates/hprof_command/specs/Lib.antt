pub mod Commands
pub mod CommandLine
