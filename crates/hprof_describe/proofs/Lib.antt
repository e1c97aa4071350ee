pub mod OneFinding
pub mod FirstUnits
pub mod PrintedAscii
pub mod FoundOnce
pub mod QuotedParts
pub mod WordParts
