-- In reading order: the places of a copy; and what a copy has so far, for private contracts.
pub mod Copied
pub mod Found
