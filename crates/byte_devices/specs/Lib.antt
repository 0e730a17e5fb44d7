-- In reading order: the counts, several reads in a row, why something was not written, and the
-- devices for tests.
pub mod Device
pub mod Reading
pub mod WriteFaults
pub mod Failing
