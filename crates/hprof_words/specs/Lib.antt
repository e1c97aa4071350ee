pub mod Words
pub mod Few
