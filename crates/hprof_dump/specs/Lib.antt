pub mod Dump
pub mod Segments
pub mod Counted
pub mod Batch
pub mod Dump101
