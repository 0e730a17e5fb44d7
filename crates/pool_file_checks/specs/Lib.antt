-- In reading order.
pub mod Checks
pub mod Objects
pub mod Own
pub mod Indexing
pub mod Connecting
pub mod Sums
pub mod Tenants
pub mod FileRefs
pub mod Held
pub mod Whole
pub mod Quick
pub mod Fronts
pub mod Alike
pub mod Repositories
pub mod Saved
pub mod Saving
pub mod Judging
