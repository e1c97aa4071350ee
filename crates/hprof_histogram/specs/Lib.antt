pub mod Histogram
pub mod CountedKinds
pub mod Known
pub mod Objects
pub mod Chosen
pub mod Choosing
