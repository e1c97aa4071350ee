pub mod Words
pub mod Lines
pub mod Same
pub mod Asked
pub mod Answering
pub mod Dialogue
