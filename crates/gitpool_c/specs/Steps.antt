-- A step of a service in a handle.
use Rattle.std.specs.Prelude.{◌≡◌, ℕ, false, List, [], ◌∷◌, Option, IsSome}
use Rattle.service_steps.specs.declared.step.Step.{Step}
use Rattle.tenant_service.specs.Headline.{IsIsolated, IsRefused, Response}
use Rattle.tenant_service.specs.Kept.{may_change, KeepsOpened}
use Rattle.tenant_service.specs.TenantState.{TenantStates, held_of}
use Rattle.gitpool_c.specs.declared.kept.Kept.{Kept}
use Rattle.gitpool_c.specs.Held.{service_in, told_in}
use Rattle.gitpool_c.specs.Numbers.{number_of}

-- A service took a step, and told this: the clauses of `Service::step`.
pub record HasStepped (digest : List ℕ → List ℕ) (s : Step) (before : TenantStates) (told : Response)
    (after : TenantStates) : Type 0 where
  pub own : (tenant : List ℕ)
      → IsIsolated digest tenant (held_of tenant before) ((s, told) ∷ []) (held_of tenant after)
  pub kept : (tenant : List ℕ) → may_change tenant s ≡ false
      → held_of tenant after ≡ held_of tenant before
  pub opened : (tenant : List ℕ) → KeepsOpened (held_of tenant before) (held_of tenant after)
  pub bad_names : IsRefused (s, told)

-- The service in a handle took a step. Its reply is in another handle, and has just what was told.
pub record Steps (digest : List ℕ → List ℕ) (s : Step) (before : Option Kept) (number : ℕ)
    (reply after : Option Kept) : Type 0 where
  pub stepped : HasStepped digest s (service_in before) (told_in reply) (service_in after)
  pub numbered : number ≡ number_of (told_in reply).answer
  pub filled : IsSome after
  pub replied : IsSome reply
