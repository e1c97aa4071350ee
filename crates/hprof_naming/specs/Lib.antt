pub mod Naming
pub mod ClassNames
pub mod Called
pub mod TypeWord
pub mod TypeNames
pub mod MeantLabel
pub mod Units
pub mod Texts
