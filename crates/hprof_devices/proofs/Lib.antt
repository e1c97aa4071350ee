pub mod Writes
pub mod OneByOne
