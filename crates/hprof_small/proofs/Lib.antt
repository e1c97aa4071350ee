mod OtherFacts
mod SmallFacts
mod Taking
mod SmallHeaps
pub mod SmallHas
