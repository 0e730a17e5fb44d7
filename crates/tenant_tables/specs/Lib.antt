-- In reading order.
pub mod Fault
pub mod View
pub mod Objects
pub mod IsBackedBy
pub mod Lent
pub mod Sharing
pub mod Room
pub mod Adding
pub mod Trees
pub mod Sums
pub mod SumIn
pub mod Summed
pub mod Abbreviation
pub mod Index
pub mod Copied
