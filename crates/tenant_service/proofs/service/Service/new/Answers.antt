use Rattle.std.proofs.Common.{subst, sym}
use Rattle.tenant_service.specs.Tenants.{Tenants, IsService}
use Rattle.tenant_service.proofs.AccountLemmas.{Accounts-nil}
use Rattle.tenant_service.proofs.RunLemmas.{led-nil}
use Rattle.tenant_service.proofs.SoundLemmas.{sound-nil}
use Rattle.tenant_service.proofs.service.Service.new.Goals as goal

pub invariant_of-result : goal.invariant_of-result
invariant_of-result g c =
    subst (λ (es : Tenants). IsService g.N.Naming.digest_of c.new.result es) (sym c.new-2.ensures.empty)
    (record { accounts = Accounts-nil _ _ c.new.ensures; led = led-nil _; sound = sound-nil _ })
