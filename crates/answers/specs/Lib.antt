-- In reading order: the faults, queries, what is printed of objects and of refs, and the answer to
-- a query.
pub mod Faults
pub mod Queries
pub mod Printed
pub mod Answers
