pub mod IndexLemmas
pub mod PoolLemmas
pub mod CallerLemmas
pub mod DistinctSums
pub mod StoredLemmas
