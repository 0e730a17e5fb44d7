-- In reading order.
pub mod Faults
pub mod Format
pub mod Lengths
pub mod Taking
pub mod Shown
pub mod Sinks
pub mod AddingUp
