pub mod Numerals
pub mod Digits
