pub mod Passing
pub mod Finding
pub mod Picked
pub mod Picking
