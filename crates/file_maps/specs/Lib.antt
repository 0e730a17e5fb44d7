-- In reading order.
pub mod Faults
pub mod FileMap
pub mod HeldFiles
pub mod Edits
pub mod Kept
pub mod Calls
pub mod ByComponent
pub mod Trees
pub mod StoredTree
pub mod PlainTrees
pub mod Grafts
pub mod Below
pub mod Storing
pub mod Storable
pub mod StoredFiles
pub mod StoredAgain
pub mod GoodTrees
