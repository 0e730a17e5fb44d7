pub mod Held
pub mod Listing
pub mod Loads
pub mod Numbers
pub mod Operating
pub mod Reading
pub mod Steps
pub mod Totals
