-- In reading order.
pub mod Refs
pub mod Loading
pub mod Tables
pub mod Building
pub mod Listing
pub mod Worth
pub mod Lent
pub mod Slots
pub mod Saves
