-- In reading order: what is missing, the faults, and the marks of a sweep with the flags that they
-- are kept in.
pub mod Missing
pub mod Faults
pub mod Marks
pub mod Flags
