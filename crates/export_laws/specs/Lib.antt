-- In reading order: acts that are carried out one after another; the order in which they store
-- exported objects, and what they leave of these; a commit while it is told; the workspace once all
-- is saved, and how it is reached; copies of repositories; where an import ends; files that are put
-- one by one; and a repository as an example.
pub mod Leaving
pub mod Order
pub mod Told
pub mod Commits
pub mod Saved
pub mod Whole
pub mod Copies
pub mod Ends
pub mod Putting
pub mod OneCommit
