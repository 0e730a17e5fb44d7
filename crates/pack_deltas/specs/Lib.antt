-- In reading order.
pub mod Delta
pub mod Patching
