pub mod ClassFronts
pub mod RecordFronts
pub mod SubFronts
