pub mod KindParts
pub mod Choosing
pub mod Going
pub mod Fronting
pub mod Telling
pub mod SomeParts
pub mod SomeLinks
pub mod SomeText
pub mod OneText
pub mod Reaching
mod HowReached
mod WhyInSmall
mod WhyHeaps
pub mod Stretches
