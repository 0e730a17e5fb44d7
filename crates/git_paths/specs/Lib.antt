pub mod Paths
pub mod Order
pub mod Quoting
pub mod Written
pub mod Reading
pub mod Faults
