pub mod ModifiedUtf8
pub mod Printed
pub mod Identifier
pub mod JavaFloats
