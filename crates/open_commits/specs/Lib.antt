-- In reading order.
pub mod Faults
pub mod OpenCommit
pub mod OpenFiles
pub mod Storing
pub mod Parents
pub mod Changes
pub mod Showing
pub mod Ends
pub mod Calls
pub mod GoodCommits
