pub mod Device
pub mod Buffered
