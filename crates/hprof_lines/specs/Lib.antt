pub mod Line
pub mod Printed
pub mod Stopping
pub mod Passed
pub mod ObjectsText
pub mod OneObjects
