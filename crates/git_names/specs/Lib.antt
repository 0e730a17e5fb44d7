-- In reading order. The first lines re-export what the definitions below use.
pub use Rattle.git_model.specs.Bytes
pub use Rattle.git_model.specs.Kind
pub use Rattle.git_model.specs.ObjectName
pub use Rattle.git_model.specs.RefName
pub mod Naming
pub mod Digests
pub mod Ident
pub mod StoredName
pub mod Faults
