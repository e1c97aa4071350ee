pub mod BareLabels
pub mod MeantClasses
pub mod Judgements
pub mod Stated
pub mod ObjectsOf
pub mod ObjectsOfText
pub mod NamedText
