pub mod Lists
pub mod Entering
pub mod Joined
pub mod Showing
pub mod PassingOver
pub mod Unions
pub mod Merged
pub mod Rounds
pub mod Tree
mod Apart
pub mod Late
pub mod LateUnions
pub mod Skipping
pub mod Later
pub mod EitherShows
mod PassedOn
