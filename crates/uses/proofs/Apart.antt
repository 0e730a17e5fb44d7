-- What a step leaves of the tenants that it does not name.
use Rattle.std.proofs.Common.{◌≡◌, ℕ, Bool, true, false, ◌&&◌, List, refl, ap, ◌∙◌}
use Rattle.std.specs.Str.{bytes_eq}
use Rattle.tenant_refs.specs.TenantName.{is_tenant_name}
use Rattle.service_steps.specs.declared.step.Step.{Step}
use Rattle.service_steps.specs.declared.step.Step.TheVariants as step
use Rattle.tenant_service.specs.Alone.{Restart}
use Rattle.tenant_service.specs.Headline.{concerns, call_of}
use Rattle.tenant_service.specs.Kept.{may_change}
use Rattle.tenant_service.specs.StepName.{name_of}
use Rattle.tenant_service.proofs.KeptLemmas.{stays-apart}
use Rattle.tenant_service.proofs.RunLemmas.{apart-back}

-- a name that is not this tenant's
apart-name : (b : Bool) (given other tenant : List ℕ) → given ≡ tenant → bytes_eq other tenant ≡ false
    → (b && bytes_eq given other) ≡ false
apart-name false given other tenant named apart = refl
apart-name true given other tenant named apart =
    ap (λ (n : List ℕ). bytes_eq n other) named ∙ apart-back other tenant apart

-- a call of one tenant concerns no other
call-apart : (other tenant : List ℕ) (s : Step) → name_of s ≡ tenant → (call_of s ≡ Restart → ⊥)
    → bytes_eq other tenant ≡ false → concerns other s ≡ false
unfolding concerns
call-apart other tenant (step.Open given) named calls apart =
    apart-name (is_tenant_name given.now) given.now other tenant named apart
call-apart other tenant (step.Feed given bytes) named calls apart =
    apart-name (is_tenant_name given.now) given.now other tenant named apart
call-apart other tenant (step.End given) named calls apart =
    apart-name (is_tenant_name given.now) given.now other tenant named apart
call-apart other tenant (step.Ask given query) named calls apart =
    apart-name (is_tenant_name given.now) given.now other tenant named apart
call-apart other tenant step.Restart named calls apart = absurd (calls refl)

-- so it changes nothing of the other
pub unchanged : (other tenant : List ℕ) (s : Step) → name_of s ≡ tenant → (call_of s ≡ Restart → ⊥)
    → bytes_eq other tenant ≡ false → may_change other s ≡ false
unchanged other tenant s named calls apart =
    stays-apart other s (call-apart other tenant s named calls apart)
