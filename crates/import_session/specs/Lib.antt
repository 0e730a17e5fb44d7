-- In reading order: what commits do and what changes their files, what each command does, and the
-- stream from end to end; what stays true of a stream; then what a session holds.
pub mod Commits
pub mod Opening
pub mod Changes
pub mod Meaning
pub mod Stream
pub mod Sound
pub mod Session
