-- What a step leaves of what is held of a tenant.
use Rattle.std.specs.Prelude.{◌≡◌, ℕ, Bool, true, false, ◌&&◌, not, List}
use Rattle.service_steps.specs.declared.step.Step.{Step}
use Rattle.service_steps.specs.declared.step.Step.TheVariants as step
use Rattle.tenant_service.specs.Headline.{concerns}
use Rattle.tenant_service.specs.TenantState.{TenantState, Idle, Busy}
use Rattle.tenant_service.specs.HeldObjects.{opened_held}

-- A step that only asks.
abbrev pub is_ask : Step → Bool
is_ask (step.Open given) = false
is_ask (step.Feed given bytes) = false
is_ask (step.End given) = false
is_ask (step.Ask given query) = true
is_ask step.Restart = false

-- A step may change a tenant if it concerns the tenant, and does not only ask.
abbrev pub may_change : List ℕ → Step → Bool
may_change tenant s = concerns tenant s && not (is_ask s)

-- A tenant that is left with a stream has what the stream was opened on: what the tenant had, if it
-- had no stream before, and else what that stream was opened on.
abbrev pub KeepsOpened : TenantState → TenantState → Type 0
KeepsOpened before (Idle repository) = Unit {0}
KeepsOpened before (Busy opened status) = opened ≡ opened_held before
