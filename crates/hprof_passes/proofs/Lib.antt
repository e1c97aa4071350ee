pub mod Tables
pub mod GoingOver
pub mod Halves
pub mod PickedObjects
pub mod GivenOn
pub mod LookedUp
