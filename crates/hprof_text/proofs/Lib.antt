pub mod Rows
pub mod Fronts
pub mod IdTexts
pub mod Prints
pub mod Decided
pub mod LastZeros
pub mod FloatTexts
pub mod FloatExact
