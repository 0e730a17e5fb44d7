pub mod KnownBytes
pub mod ReadLemmas
mod WrittenSoFar
