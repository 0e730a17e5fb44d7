use Rattle.std.proofs.Common.{refl, ap, ◌∙◌}
use Rattle.pool_file.specs.Worth.{to_save}
use Rattle.tenant_service.specs.Entries.{parts_of}
use Rattle.tenant_service.specs.Extracting.{only}
use Rattle.tenant_service.specs.Saved.{saved_of}
use Rattle.tenant_service.specs.TenantState.{TenantStates}
use Rattle.tenant_service.proofs.ExtractLemmas.{holdings-under, stands-under}
use Rattle.tenant_service.proofs.LentLemmas.{all-stand, saved-lent}
use Rattle.tenant_service.proofs.service.Service.save_only.Goals as goal

pub save_views-requires : goal.save_views-requires
save_views-requires g c =
    rw c.deref.ensures.value
    (all-stand parts_of (λ e. refl) _ _ _ _
    (stands-under _ _ c.args.name.now _ c.self.invariant.accounts.stands) c.in_ok-lent.ensures)

pub returns : goal.returns
returns g c =
    let p = c.self.inside.pool in
    let name = c.args.name.now in
    rw (← (ap (to_save p) c.deref.ensures.value
    ∙ saved-lent _ p _ _ (stands-under _ p name _ c.self.invariant.accounts.stands)
    c.in_ok-lent.ensures
    ∙ ap saved_of (holdings-under p name c.self.inside.tenants.entries)
    ∙ ap (λ (all : TenantStates). saved_of (only name all)) c.self.view_is))
    c.save_views.ensures
