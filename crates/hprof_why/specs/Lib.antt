pub mod Folding
pub mod WhyText
pub mod Kinds
pub mod Walks
pub mod Paths
pub mod WhyObjects
