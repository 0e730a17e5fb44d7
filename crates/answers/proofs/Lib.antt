pub mod NameDigits
pub mod Prefixes
pub mod ShortestPrefixes
pub mod Kept
mod Messages
mod QueryExamples
pub mod Exported
