pub mod Asking
pub mod Usages
pub mod Ends
pub mod Replies
