pub mod ByteSegments
pub mod Taking
pub mod Writer
pub mod Sink
