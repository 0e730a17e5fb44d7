pub mod ItemLemmas
mod LastLemmas
mod CommitLemmas
pub mod LentLemmas
pub mod SoundCommits
pub mod SoundEnds
