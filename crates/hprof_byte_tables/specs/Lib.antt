pub mod Spans
pub mod StatedBytes
pub mod BytesTable
