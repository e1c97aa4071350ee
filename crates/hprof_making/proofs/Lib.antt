pub mod StoredOf
pub mod Made
pub mod OfParts
pub mod Passed
