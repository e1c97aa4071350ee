pub mod TwoPieces
pub mod CutRows
pub mod Lying
pub mod Lengths
pub mod Picked
pub mod Found
pub mod Sending
pub mod Spelled
pub mod PickedCursors
pub mod Added
pub mod Bringing
pub mod Reading
pub mod Going
pub mod Groups
pub mod AllRows
pub mod Opened
mod PassedOn
