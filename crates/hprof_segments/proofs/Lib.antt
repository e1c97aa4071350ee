pub mod Behind
pub mod Held
pub mod Takes
pub mod Mapped
pub mod Viewed
pub mod RowRuns
pub mod FactSubs
