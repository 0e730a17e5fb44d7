pub mod Sums
pub mod Heads
pub mod Blocks
pub mod Packs
pub mod BlocksLeft
pub mod EntriesLeft
pub mod Fed
