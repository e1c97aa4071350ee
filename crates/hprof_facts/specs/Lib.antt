pub mod ObjectKeys
pub mod Kept
pub mod Queues
pub mod Listing
pub mod FactPlaces
pub mod OfBytes
pub mod Sizes
pub mod FactReader
