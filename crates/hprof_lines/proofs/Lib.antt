pub mod TextWriting
pub mod PrintedPieces
pub mod WholeNames
pub mod PassedEnds
