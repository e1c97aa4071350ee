pub mod Walks
pub mod Kept
pub mod Finds
pub mod Search
pub mod WayBack
pub mod ByLists
