-- What the calls of the operator leave: the clauses of the calls of `Service` that are passed on.
use Rattle.std.specs.Prelude.{◌≡◌, ◌≢◌, ℕ, false, List, None, IsSome}
use Rattle.std.specs.Str.{bytes_eq}
use Rattle.export_laws.specs.Copies.{CanBeCopied}
use Rattle.service_steps.specs.declared.answer.Answer.{Answer}
use Rattle.service_steps.specs.declared.answer.Answer.TheVariants as answer
use Rattle.tenant_service.specs.Compacting.{AnswersUnless, IsCompacted, compacted}
use Rattle.tenant_service.specs.Copies.{CopiesAs, StoresAs}
use Rattle.tenant_service.specs.Copying.{HasTaken, IsCopyRun, copy_refusal}
use Rattle.tenant_service.specs.HeldObjects.{last_held}
use Rattle.tenant_service.specs.Removing.{abandon_refusal, all_but, removal_refusal}
use Rattle.tenant_service.specs.TenantState.{TenantStates, Idle, empty_repository, held_of}
use Rattle.gitpool_c.specs.Numbers.{number_of}

-- Every tenant but this one has what it had.
abbrev pub KeepsOthers : List ℕ → TenantStates → TenantStates → Type 0
KeepsOthers tenant before after = (other : List ℕ) → bytes_eq other tenant ≡ false
    → held_of other after ≡ held_of other before

-- A tenant was copied to another one, or refused: `Service::copy_tenant`.
pub record Copies (digest : List ℕ → List ℕ) (from to : List ℕ) (before : TenantStates)
    (number : ℕ) (after : TenantStates) : Type 0 where
  pub told : Answer
  pub numbered : number ≡ number_of told
  pub copied : HasTaken digest before after (λ run.
      IsCopyRun (copy_refusal from to before) from to run told)
  pub others : KeepsOthers to before after
  pub refused : IsSome (copy_refusal from to before) → after ≡ before
  pub copies : copy_refusal from to before ≡ None
      → CanBeCopied (last_held (held_of from before))
      → CopiesAs told (last_held (held_of from before)) (held_of to after)
  pub stored : copy_refusal from to before ≡ None
      → CanBeCopied (last_held (held_of from before)) → StoresAs told before after

-- A tenant was removed, if it is not refused: `Service::remove_tenant`.
pub record IsRemoved (tenant : List ℕ) (before after : TenantStates) : Type 0 where
  pub removed : removal_refusal tenant before ≡ None → after ≡ all_but tenant before
  pub own : removal_refusal tenant before ≡ None → held_of tenant after ≡ Idle empty_repository
  pub others : KeepsOthers tenant before after
  pub refused : IsSome (removal_refusal tenant before) → after ≡ before

-- A tenant was compacted, or refused, or memory ran out: `Service::compact_tenant`.
pub record Compacts (tenant : List ℕ) (before : TenantStates) (number : ℕ) (after : TenantStates)
    : Type 0 where
  pub told : Answer
  pub numbered : number ≡ number_of told
  pub answered : AnswersUnless (removal_refusal tenant before) told
  pub own : told ≡ answer.Ok
      → held_of tenant after ≡ Idle (compacted (last_held (held_of tenant before)))
  pub whole : told ≡ answer.Ok
      → IsCompacted (last_held (held_of tenant before)) (last_held (held_of tenant after))
  pub others : KeepsOthers tenant before after
  pub refused : told ≢ answer.Ok → after ≡ before

-- The stream of a tenant was given up, if it has one: `Service::abandon`.
pub record IsAbandoned (tenant : List ℕ) (before after : TenantStates) : Type 0 where
  pub own : held_of tenant after ≡ Idle (last_held (held_of tenant before))
  pub others : KeepsOthers tenant before after
  pub refused : IsSome (abandon_refusal tenant before) → after ≡ before
