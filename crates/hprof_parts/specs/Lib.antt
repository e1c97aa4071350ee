pub mod Parts
pub mod Slices
pub mod Files
