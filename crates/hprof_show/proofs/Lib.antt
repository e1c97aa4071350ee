pub mod ToldElements
pub mod ToldFields
pub mod Rows
pub mod OneReport
pub mod Regrouped
pub mod LineParts
mod SameShow
mod ShowInAll
mod PushedIds
mod ShownFound
mod FewHeaps
