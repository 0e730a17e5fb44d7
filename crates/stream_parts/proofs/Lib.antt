mod BranchLemmas
mod CheckpointLemmas
