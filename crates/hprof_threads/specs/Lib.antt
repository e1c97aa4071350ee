pub mod Threads
pub mod ThreadRoots
pub mod Frames
pub mod ThreadNames
pub mod Held
pub mod HeldOrder
pub mod Serials
