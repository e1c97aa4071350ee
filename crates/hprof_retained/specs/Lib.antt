pub mod Retained
pub mod Tree
pub mod Weakly
pub mod Border
pub mod BorderTaken
pub mod Sizing
pub mod WeaklyTaken
pub mod CachedReferences
