pub mod Over
pub mod Watching
