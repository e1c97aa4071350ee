pub mod FirstLoads
pub mod Namings
pub mod FirstNamed
pub mod Lookups
pub mod CalledClasses
mod UnitCounts
pub mod OneText
mod Found
mod Pairs
mod Slashed
mod Labels
mod SlashedWords
mod Meanings
