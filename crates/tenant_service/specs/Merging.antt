-- A merge: the tenants of another service come to this one, which has nothing of them.
use Rattle.std.specs.Prelude.{◌≡◌, ℕ, false, if◌then◌else◌, List, [], ◌∷◌, map, Option, None, Some}
use Rattle.std.specs.Option.{option_or}
use Rattle.std.specs.Str.{bytes_eq}
use Rattle.pool_file_checks.specs.Repositories.{file_text}
use Rattle.service_steps.specs.declared.answer.Answer.{Answer}
use Rattle.service_steps.specs.declared.answer.Answer.TheVariants as answer
use Rattle.service_steps.specs.declared.fault.ServiceFault.{ServiceFault}
use Rattle.service_steps.specs.Faults.{code_of}
use Rattle.tenant_service.specs.TenantState.{TenantState, TenantStates, Idle, held_of}
use Rattle.tenant_service.specs.HeldObjects.{last_held}
use Rattle.tenant_service.specs.Saved.{saved_of}
use Rattle.tenant_service.specs.Copying.{has_nothing, held_refusal}
use Rattle.tenant_service.specs.Extracting.{only}

-- Why the first of these tenants that takes nothing is refused, if there is one.
abbrev pub first_refused : List (List ℕ) → TenantStates → Option ServiceFault
first_refused [] all = None
first_refused (name ∷ names) all =
    option_or (held_refusal (held_of name all)) (first_refused names all)

-- Why a merge is refused: by the first of the tenants that come, in rising order of their names,
-- which has a stream here, or has something here.
abbrev pub merge_refusal : TenantStates → TenantStates → Option ServiceFault
merge_refusal others all = first_refused (map (λ n. n.tenant) (saved_of others)) all

-- What is held of a tenant after a merge: what the other service has of it at its last checkpoint,
-- if that is something, and else what was held.
abbrev pub merged : List ℕ → TenantStates → TenantStates → TenantState
merged tenant others all =
    let repository = last_held (held_of tenant others) in
    if has_nothing repository then held_of tenant all else Idle repository

-- What a merge answers and leaves: a refused one everything, and one that is out of memory of every
-- tenant what was held.
abbrev pub Merges : Option ServiceFault → TenantStates → TenantStates → Answer → TenantStates
    → Type 0
Merges None others before answer.Ok after =
    (tenant : List ℕ) → held_of tenant after ≡ merged tenant others before
Merges (Some refusal) others before answer.Ok after = ⊥
Merges None others before (answer.Fault code) after = ⊥
Merges (Some refusal) others before (answer.Fault code) after =
    (code ≡ code_of refusal) × (after ≡ before)
Merges refusal others before (answer.Memory items) after =
    (items ≡ 0) × ((tenant : List ℕ) → held_of tenant after ≡ held_of tenant before)

-- A tenant has moved from one service to another: it has there what it had at its last checkpoint,
-- every other tenant has what it had, and extracted there it gives the same bytes.
pub record HasMoved (digest : List ℕ → List ℕ) (tenant : List ℕ)
    (source before after : TenantStates) : Type 0 where
  pub own : held_of tenant after ≡ Idle (last_held (held_of tenant source))
  pub others : (other : List ℕ) → bytes_eq other tenant ≡ false
      → held_of other after ≡ held_of other before
  pub file : file_text digest (saved_of (only tenant after))
      ≡ file_text digest (saved_of (only tenant source))
