pub mod Size
pub mod Memory
pub mod LateFile
pub mod LateScratch
