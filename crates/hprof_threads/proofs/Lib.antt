pub mod KeyedFacts
pub mod FirstRoots
pub mod ThreadAnswers
pub mod FrameAnswers
pub mod Dotted
pub mod FirstHolding
pub mod NameAnswers
pub mod Gathered
mod HeldEquality
pub mod HeldRows
pub mod Runs
mod HeldOfThread
mod SerialLists
