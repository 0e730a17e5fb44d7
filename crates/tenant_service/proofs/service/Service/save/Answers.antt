use Rattle.std.proofs.Common.{refl, ap, ◌∙◌}
use Rattle.pool_file.specs.Worth.{to_save}
use Rattle.tenant_service.specs.Entries.{parts_of}
use Rattle.tenant_service.specs.Saved.{saved_of}
use Rattle.tenant_service.proofs.LentLemmas.{all-stand, saved-lent}
use Rattle.tenant_service.proofs.service.Service.save.Goals as goal

pub save_views-requires : goal.save_views-requires
save_views-requires g c =
    rw c.deref.ensures.value
    (all-stand parts_of (λ e. refl) _ _ _ _ c.self.invariant.accounts.stands c.in_ok-lent.ensures)

pub returns : goal.returns
returns g c =
    rw (← (ap (to_save c.self.inside.pool) c.deref.ensures.value
    ∙ saved-lent _ _ _ _ c.self.invariant.accounts.stands c.in_ok-lent.ensures
    ∙ ap saved_of c.self.view_is))
    c.save_views.ensures
