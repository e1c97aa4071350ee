pub mod ByteCounter
pub mod RowWriter
pub mod Dumping101
pub mod StoredMaking101
