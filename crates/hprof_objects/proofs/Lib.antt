mod Enough
mod Rows
mod Stretches
mod StretchesMoved
mod CutMoves
pub mod Whole
pub mod WholeHeap
mod InOrder
mod Spilled
mod Logged
pub mod Parts
mod Settled
mod FrontFacts
mod AllGiven
mod ReadingAgain
mod StretchCursors
pub mod Stored
pub mod PartsUnder
pub mod Opened
pub mod FaultsAt
pub mod Stops
pub mod MergedObjects
pub mod OpeningFaults
pub mod OneStretch
mod GoneUp
mod CutsOpened
mod LookedUp
mod GivenOne
mod GivenAll
mod Apart
mod PassedCuts
mod WantedRows
mod PickedRows
mod PickedCuts
mod PickedFront
mod PickedMerge
mod PickedAgreed
mod PassedOn
