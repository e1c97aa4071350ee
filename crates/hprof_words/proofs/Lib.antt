pub mod Among
mod SmallNames
pub mod NextInAll
pub mod SameWords
mod NextParts
pub mod WordsHeaps
pub mod WordsInAll
