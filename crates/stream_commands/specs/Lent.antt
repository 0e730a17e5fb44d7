-- What a call borrows: the pool that all share, and one tenant's table over it.
pub use Rattle.tenant_tables.specs.Lent.{Keeps, IsUnchanged}
