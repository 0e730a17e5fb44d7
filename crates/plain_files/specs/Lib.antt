-- In reading order.
pub mod Below
pub mod Storable
pub mod Gathers
