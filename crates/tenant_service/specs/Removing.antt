-- What the operator takes from a tenant: its stream, or all that is held of it.
use Rattle.std.specs.Prelude.{◌≡◌, ℕ, false, not, if◌then◌else◌, List, filter, Option, None, Some, IsSome}
use Rattle.std.specs.Str.{bytes_eq}
use Rattle.tenant_refs.specs.TenantName.{is_tenant_name}
use Rattle.service_steps.specs.declared.answer.Answer.{Answer}
use Rattle.service_steps.specs.declared.answer.Answer.TheVariants as answer
use Rattle.service_steps.specs.declared.fault.ServiceFault.{ServiceFault}
use Rattle.service_steps.specs.declared.fault.ServiceFault.TheVariants as fault
use Rattle.service_steps.specs.Faults.{code_of}
use Rattle.tenant_service.specs.TenantState.{TenantState, TenantStates, Idle, Busy, held_of}
use Rattle.tenant_service.specs.HeldObjects.{last_held}
use Rattle.tenant_service.specs.Tenants.{Accounts, holdings}
use Rattle.tenant_service.specs.OneStep.{Store, held_in_store}

-- Why nothing of a tenant can be given up: it has no stream.
abbrev pub without_stream : TenantState → Option ServiceFault
without_stream (Idle repository) = Some fault.NoStream
without_stream (Busy opened status) = None

-- Why a tenant cannot be removed: it has a stream, running or dead.
abbrev pub with_stream : TenantState → Option ServiceFault
with_stream (Idle repository) = None
with_stream (Busy opened status) = Some fault.StreamIsOpen

-- A stream is not given up if the name is bad, or if there is no stream.
abbrev pub abandon_refusal : List ℕ → TenantStates → Option ServiceFault
abandon_refusal tenant all =
    if is_tenant_name tenant then without_stream (held_of tenant all)
    else Some fault.BadTenantName

-- A tenant is not removed if the name is bad, or if it has a stream.
abbrev pub removal_refusal : List ℕ → TenantStates → Option ServiceFault
removal_refusal tenant all =
    if is_tenant_name tenant then with_stream (held_of tenant all) else Some fault.BadTenantName

-- The answer is the refusal, if there is one, else Ok.
abbrev pub answer_unless : Option ServiceFault → Answer
answer_unless None = answer.Ok
answer_unless (Some refusal) = answer.Fault (code_of refusal)

-- All tenants but the one of this name.
abbrev pub all_but : List ℕ → TenantStates → TenantStates
all_but tenant all = filter (λ e. not (bytes_eq tenant e.0)) all

-- For the contracts of private functions: the stream of a tenant was given up, if it has one.
-- Afterwards the accounts hold again.
pub record Abandons (digest : List ℕ → List ℕ) (tenant : List ℕ) (before : Store) (told : Answer)
    (after : Store) : Type 0 where
  pub accounts : Accounts digest after.pool after.tenants
  pub answered : told
      ≡ answer_unless (abandon_refusal tenant (holdings before.pool before.tenants))
  pub own : held_in_store tenant after ≡ Idle (last_held (held_in_store tenant before))
  pub others : (other : List ℕ) → bytes_eq other tenant ≡ false
      → held_in_store other after ≡ held_in_store other before
  pub refused : IsSome (abandon_refusal tenant (holdings before.pool before.tenants))
      → holdings after.pool after.tenants ≡ holdings before.pool before.tenants

-- A tenant was removed, if it has no stream. Afterwards the accounts hold again.
pub record Removes (digest : List ℕ → List ℕ) (tenant : List ℕ) (before : Store) (told : Answer)
    (after : Store) : Type 0 where
  pub accounts : Accounts digest after.pool after.tenants
  pub answered : told
      ≡ answer_unless (removal_refusal tenant (holdings before.pool before.tenants))
  pub removed : removal_refusal tenant (holdings before.pool before.tenants) ≡ None
      → holdings after.pool after.tenants
      ≡ all_but tenant (holdings before.pool before.tenants)
  pub refused : IsSome (removal_refusal tenant (holdings before.pool before.tenants))
      → holdings after.pool after.tenants ≡ holdings before.pool before.tenants
