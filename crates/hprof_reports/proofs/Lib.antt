pub mod Counts
pub mod Slices
pub mod CheckLines
pub mod ObjectParts
pub mod PathTold
pub mod ClassLists
pub mod KnownChains
pub mod Places
pub mod Finding
pub mod SomeRoots
pub mod Digits
pub mod WholeDumps
pub mod SmallFields
pub mod SmallTexts
mod SmallReports
mod ReportsOver
pub mod FoundSo
pub mod ValueArrays
