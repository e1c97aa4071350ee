pub mod Handing
pub mod Pieces
pub mod Parts
pub mod Listing
pub mod Lasting
pub mod Again
