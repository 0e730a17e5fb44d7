-- In reading order: why a stream stops, a stream between two pieces, and sound streams.
pub mod Stopping
pub mod Carrying
pub mod Soundness
