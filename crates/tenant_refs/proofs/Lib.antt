pub mod Entries
pub mod Searches
pub mod Stores
pub mod Merges
pub mod Names
pub mod FullNames
