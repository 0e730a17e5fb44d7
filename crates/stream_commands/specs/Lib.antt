-- In reading order: the faults of an open commit, what a stream keeps, what its commands do, family
-- by family; then the state of a running stream, the files that it holds, and what a call borrows.
pub mod Faults
pub mod Workspace
pub mod CommitIshes
pub mod Lines
pub mod Tags
pub mod Objects
pub mod Refs
pub mod Printing
pub mod Replies
pub mod Checkpoints
pub mod Controls
pub mod State
pub mod Held
pub mod Lent
