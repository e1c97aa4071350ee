pub mod Framed
pub mod Spans
pub mod Taking
pub mod SameTables
