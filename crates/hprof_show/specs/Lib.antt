pub mod ClassLines
pub mod FieldLines
pub mod ElementLines
pub mod NumberLines
pub mod ShowText
pub mod Shown
pub mod ShownObjects
