pub mod NextChange
pub mod Sums
pub mod Keeping
pub mod OfHeap
pub mod Counting
