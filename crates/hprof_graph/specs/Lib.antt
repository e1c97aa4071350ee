pub mod Number
pub mod ByTarget
pub mod Derived
pub mod Indexed
pub mod Mapped
pub mod LiveHeap
pub mod OfParts
