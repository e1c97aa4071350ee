pub mod Weak
pub mod Links
pub mod Strengths
pub mod WeakClasses
pub mod Rows
pub mod ByField
