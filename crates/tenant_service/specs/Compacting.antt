-- Compaction of a tenant's repository: git-gc(1), with --prune=now.
use Rattle.std.specs.Prelude.{◌≡◌, ◌≢◌, ◌⊎◌, ◌<◌, ℕ, false, List, [], length, All, Option, None, Some}
use Rattle.std.specs.Str.{bytes_eq}
use Rattle.git_model.specs.Repository.{Repository}
use Rattle.content_pool.specs.Pool.{Cells}
use Rattle.tenant_tables.specs.IsBackedBy.{PreservesOthers}
use Rattle.tenant_tables.specs.Copied.{objects_at}
use Rattle.export_text.specs.Reached.{reached_objects}
use Rattle.export_laws.specs.Told.{AreOf}
use Rattle.export_laws.specs.Whole.{HasReached}
use Rattle.service_steps.specs.declared.answer.Answer.{Answer}
use Rattle.service_steps.specs.declared.answer.Answer.TheVariants as answer
use Rattle.service_steps.specs.declared.fault.ServiceFault.{ServiceFault}
use Rattle.service_steps.specs.Faults.{code_of}
use Rattle.tenant_service.specs.declared.tenant.Tenant.{Tenant}
use Rattle.tenant_service.specs.TenantState.{Idle}
use Rattle.tenant_service.specs.HeldObjects.{last_held}
use Rattle.tenant_service.specs.Tenants.{Accounts, Stands, holding_in, holdings}
use Rattle.tenant_service.specs.OneStep.{Store, held_in_store}
use Rattle.tenant_service.specs.Removing.{removal_refusal, with_stream}

-- The objects that the refs of a repository reach, in the old order, and the same refs and HEAD.
abbrev pub compacted : Repository → Repository
compacted repository =
    record { objects = reached_objects repository; refs = repository.refs }

-- The refs and HEAD are the same. Each object that they reach is there, under its name and with its
-- kind and bytes, and no other object is. A second compaction changes nothing.
pub record IsCompacted (repository left : Repository) : Type 0 where
  pub refs : left.refs ≡ repository.refs
  pub whole : HasReached repository left.objects
  pub only : AreOf repository left.objects
  pub again : compacted left ≡ left

-- The answer is the refusal, if there is one. Else it is Ok, or memory ran out.
abbrev pub AnswersUnless : Option ServiceFault → Answer → Type 0
AnswersUnless None told = (told ≡ answer.Ok) ⊎ (told ≡ answer.Memory 0)
AnswersUnless (Some refusal) told = told ≡ answer.Fault (code_of refusal)

-- ---- for the contracts of private functions

-- These are the places of what the refs reach.
pub record AreReached (repository : Repository) (places : List ℕ) : Type 0 where
  pub within : All (λ p. p < length repository.objects) places
  pub objects : objects_at repository.objects places ≡ reached_objects repository

-- A tenant without a stream has a compacted repository. It stands beside all others.
pub record HasCompacted (digest : List ℕ → List ℕ) (before : Cells) (old : Tenant) (after : Cells)
    (new : Tenant) : Type 0 where
  pub stands : Stands digest after new
  pub others : PreservesOthers before old.table.entries after new.table.entries
  pub held : holding_in after new ≡ Idle (compacted (last_held (holding_in before old)))

-- The tenant is as it was, and so is what the others hold.
pub record IsSpared (before : Cells) (old : Tenant) (after : Cells) (new : Tenant)
    : Type 0 where
  pub same : new ≡ old
  pub others : PreservesOthers before [] after []

-- A tenant was compacted, or it is as it was.
pub record CompactsOne (digest : List ℕ → List ℕ) (before : Cells) (old : Tenant) (told : Answer)
    (after : Cells) (new : Tenant) : Type 0 where
  pub answered : AnswersUnless (with_stream (holding_in before old)) told
  pub own : told ≡ answer.Ok → HasCompacted digest before old after new
  pub refused : told ≢ answer.Ok → IsSpared before old after new

-- The tenant of a name was compacted, or everything is as it was. Afterwards the accounts hold
-- again.
pub record Compacts (digest : List ℕ → List ℕ) (tenant : List ℕ) (before : Store) (told : Answer)
    (after : Store) : Type 0 where
  pub accounts : Accounts digest after.pool after.tenants
  pub answered : AnswersUnless (removal_refusal tenant (holdings before.pool before.tenants)) told
  pub own : told ≡ answer.Ok → held_in_store tenant after
      ≡ Idle (compacted (last_held (held_in_store tenant before)))
  pub others : (other : List ℕ) → bytes_eq other tenant ≡ false
      → held_in_store other after ≡ held_in_store other before
  pub refused : told ≢ answer.Ok
      → holdings after.pool after.tenants ≡ holdings before.pool before.tenants
