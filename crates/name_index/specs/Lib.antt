-- In reading order.
pub mod Index
