pub mod LabelTexts
mod JudgedNames
pub mod MeantLists
mod ClassLists
pub mod WholeLabels
pub mod SomeLists
mod ObjectLists
pub mod ObjectsInOrder
pub mod OneTexts
