-- What a copy by places does to the tenants and the pool: definitions for the contracts of private
-- functions. No public clause cites them.
use Rattle.std.specs.Prelude.{◌≡◌, ℕ, Bool, true, false, List, [], Option, None, Some, Result, Ok, Err}
use Rattle.std.specs.Str.{bytes_eq}
use Rattle.content_pool.specs.Pool.{Cells}
use Rattle.git_model.specs.Repository.{Repository}
use Rattle.tenant_tables.specs.IsBackedBy.{PreservesOthers}
use Rattle.export_laws.specs.Copies.{CanBeCopied}
use Rattle.export_laws.specs.Order.{copied_objects}
use Rattle.service_steps.specs.declared.answer.Answer.{Answer}
use Rattle.service_steps.specs.declared.answer.Answer.TheVariants as answer
use Rattle.tenant_service.specs.declared.tenant.Tenant.{Tenant}
use Rattle.tenant_service.specs.HeldObjects.{last_held}
use Rattle.tenant_service.specs.OneStep.{Store, held_in_store}
use Rattle.tenant_service.specs.TenantState.{Idle}
use Rattle.tenant_service.specs.Tenants.{Accounts, Stands, holding_in, holdings}

-- What an import of the export leaves: the same refs and HEAD, and the objects in the order of
-- storing.
abbrev pub copy_of : Repository → Repository
copy_of repository = record {
  objects = copied_objects repository;
  refs = repository.refs;
}

-- A new tenant has a copy of a repository, which can be copied. It stands beside all others.
pub record IsCopy (digest : List ℕ → List ℕ) (before : Cells) (repository : Repository)
    (after : Cells) (copy : Tenant) : Type 0 where
  pub stands : Stands digest after copy
  pub others : PreservesOthers before [] after copy.table.entries
  pub can : CanBeCopied repository
  pub held : holding_in after copy ≡ Idle (copy_of repository)

-- There is such a tenant, or the pool is as it was.
abbrev pub MayBeCopy : (List ℕ → List ℕ) → Cells → Repository → Cells → Option Tenant → Type 0
MayBeCopy digest before repository after None = after ≡ before
MayBeCopy digest before repository after (Some copy) =
    IsCopy digest before repository after copy

-- One tenant has a copy of what the other has at its last checkpoint, which can be copied. All
-- others have what they had.
pub record Copies (digest : List ℕ → List ℕ) (from to : List ℕ) (before after : Store)
    : Type 0 where
  pub accounts : Accounts digest after.pool after.tenants
  pub can : CanBeCopied (last_held (held_in_store from before))
  pub held : held_in_store to after ≡ Idle (copy_of (last_held (held_in_store from before)))
  pub others : (other : List ℕ) → bytes_eq other to ≡ false
      → held_in_store other after ≡ held_in_store other before

-- Every tenant has what it had.
pub record IsKept (digest : List ℕ → List ℕ) (before after : Store) : Type 0 where
  pub accounts : Accounts digest after.pool after.tenants
  pub same : holdings after.pool after.tenants ≡ holdings before.pool before.tenants

-- Whether it was copied. If memory ran out, it was not.
abbrev pub CopiesOrNot : {E : Type 0} → (List ℕ → List ℕ) → List ℕ → List ℕ → Store
    → Result Bool E → Store → Type 0
CopiesOrNot digest from to before (Ok true) after = Copies digest from to before after
CopiesOrNot digest from to before (Ok false) after = IsKept digest before after
CopiesOrNot digest from to before (Err memory) after = IsKept digest before after

-- What the copy answers, if it was made or memory ran out.
abbrev pub Tells : (List ℕ → List ℕ) → List ℕ → List ℕ → Store → Option Answer → Store → Type 0
Tells digest from to before (Some answer.Ok) after = Copies digest from to before after
Tells digest from to before (Some (answer.Memory items)) after =
    (items ≡ 0) × IsKept digest before after
Tells digest from to before (Some (answer.Fault code)) after = ⊥
Tells digest from to before None after = IsKept digest before after
