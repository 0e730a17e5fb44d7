pub mod Seconds
pub mod Idents
pub mod StoredNames
pub mod NameOrder
