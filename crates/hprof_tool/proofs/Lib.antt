mod Again
mod Weaker
mod ReportMaking
pub mod Conversing
pub mod Ends
pub mod Making
pub mod Files
pub mod Saving
pub mod Streams
pub mod Telling
pub mod Comparing
pub mod Tasks
