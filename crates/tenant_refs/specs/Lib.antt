-- In reading order. First the modules that the definitions below use.
pub use Rattle.git_model.specs.Bytes
pub use Rattle.git_model.specs.RefName
pub use Rattle.git_model.specs.RefStore
pub use Rattle.git_names.specs.StoredName
pub mod Faults
pub mod TenantName
pub mod FullName
pub mod Place
pub mod Changes
