pub mod ClassFitting
pub mod Fronts
pub mod Lengths
pub mod SubFitting
