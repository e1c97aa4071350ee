pub mod Whole
pub mod Texts
pub mod Stops
pub mod AskingStored
pub mod SomeAnswer
