-- What calls keep, one after another.
pub use Rattle.tenant_tables.proofs.LentLemmas.{Keeps-refl, Keeps-then}
