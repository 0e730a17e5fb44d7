-- In reading order: what is told of missing objects, the entries and the pack of objects, the
-- faults, and names and lists as bytes.
pub mod Missing
pub mod Entries
pub mod Packs
pub mod Faults
pub mod Names
pub mod Listing
