pub mod HandleAt
pub mod Handles
