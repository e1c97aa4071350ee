pub mod Handed
pub mod LastPlaces
pub mod Reading
pub mod Feeding
