-- In reading order: the faults, what a stream keeps, and what its commands do with it; then what
-- calls store, and how a line spells what a tag names.
pub mod Faults
pub mod Marks
pub mod Branches
pub mod Headers
pub mod Storing
pub mod Tags
pub mod OpenCommand
pub mod StreamOf
pub mod Checkpoints
pub mod Showing
pub mod Printing
pub mod Stored
pub mod Targets
