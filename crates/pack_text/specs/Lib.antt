-- In reading order.
pub mod Adler
pub mod PackText
pub mod PackReading
pub mod Contents
pub mod Sinks
pub mod BlockWriting
pub mod AddingUp
