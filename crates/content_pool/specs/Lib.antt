-- In reading order.
pub use Rattle.git_model.specs.Content
pub mod Pool
pub mod LiveContents
pub mod Index
pub mod Held
