pub mod Usage
pub mod Lines
