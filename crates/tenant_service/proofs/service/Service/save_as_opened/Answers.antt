use Rattle.std.proofs.Common.{ap, ◌∙◌}
use Rattle.pool_file.specs.Worth.{to_save}
use Rattle.tenant_service.specs.Saved.{saved_as_opened}
use Rattle.tenant_service.proofs.LentLemmas.{opened-stand, saved-opened}
use Rattle.tenant_service.proofs.service.Service.save_as_opened.Goals as goal

pub save_views-requires : goal.save_views-requires
save_views-requires g c =
    rw c.deref.ensures.value
    (opened-stand _ _ _ _ c.self.invariant.accounts.stands c.in_ok-lent.ensures)

pub returns : goal.returns
returns g c =
    rw (← (ap (to_save c.self.inside.pool) c.deref.ensures.value
    ∙ saved-opened _ _ _ _ c.self.invariant.accounts.stands c.in_ok-lent.ensures
    ∙ ap saved_as_opened c.self.view_is))
    c.save_views.ensures
