-- In reading order: the faults, expressions, how they are read, what they name, first parents,
-- ranges, and logs.
pub mod Faults
pub mod Expressions
pub mod ExpressionReading
pub mod Resolution
pub mod FirstParents
pub mod TagEnds
pub mod Ways
pub mod Ranges
pub mod Logs
