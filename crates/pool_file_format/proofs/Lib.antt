pub mod Formats
pub mod Files
mod Examples
pub mod Calls
pub mod Takes
pub mod Readings
pub mod FieldLemmas
pub mod WholeLemmas
pub mod Pieces
