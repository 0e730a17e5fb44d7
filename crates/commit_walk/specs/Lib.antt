-- In reading order.
pub mod Marks
pub mod Remembered
pub mod Logs
pub mod Ranges
pub mod HeaderLines
