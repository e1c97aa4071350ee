mod Noting
mod Facts
mod FrontRead
mod Ended
mod Fresh
mod Read
mod Answered
pub mod Unchanged
pub mod Subs
pub mod Dumped
pub mod Found
pub mod Joined
pub mod MadeWith
mod ToldAgain
mod ObjectSpelling
mod ObjectTable
mod Passed
mod Counted
mod MadeUp
mod WatchedPass
pub mod StoredReads
pub mod StoredMakes
mod JoinMakes
pub mod AgainMakes
pub mod Untold
mod SavedRows
mod SavedOne
mod SavedMore
mod SavedEnds
mod Saved
mod SavedHeaps
mod SalvageAgain
mod PickedPass
mod OneContent
