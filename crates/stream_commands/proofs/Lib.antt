pub mod ChainLemmas
pub mod ActLemmas
mod CheckpointLemmas
pub mod CommittedLemmas
mod TagLemmas
pub mod HeldLemmas
