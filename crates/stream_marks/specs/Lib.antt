-- What contracts see of the marks of a stream.
pub mod View
pub mod InOrder
