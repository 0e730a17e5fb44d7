pub mod Words
pub mod Opens
pub mod Marking
pub mod Sweeping
pub mod Places
pub mod Wholeness
