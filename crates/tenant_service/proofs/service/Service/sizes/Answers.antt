use Rattle.std.proofs.Common.{◌≡◌, ◌∙◌, List, IfOk, ap, map, refl, subst}
use Rattle.pool_file_checks.specs.Repositories.{Named}
use Rattle.pool_file.specs.Worth.{to_save}
use Rattle.tenant_service.specs.Entries.{parts_of}
use Rattle.tenant_service.specs.Saved.{saved_of}
use Rattle.tenant_service.specs.Sizes.{Sizes, sizes_by, sizes_told}
use Rattle.tenant_service.specs.Tenants.{CountsTenants, holds_of}
use Rattle.tenant_service.proofs.CountLemmas.{counts-tenants}
use Rattle.tenant_service.proofs.LentLemmas.{all-stand, saved-lent}
use Rattle.tenant_service.proofs.service.Service.sizes.Goals as goal

pub sizes_of_saved-requires : goal.sizes_of_saved-requires
sizes_of_saved-requires g c =
    rw c.deref.ensures.value
    (all-stand parts_of (λ e. refl) _ _ _ _ c.self.invariant.accounts.stands c.in_ok-lent.ensures)

pub returns : goal.returns
returns g c =
    let pool = c.self.inside.pool in
    let tenants = c.self.inside.tenants.entries in
    let counted : CountsTenants pool c.args.self.now =
    counts-tenants g.N.Naming.digest_of pool tenants c.args.self.now
    c.self.invariant.accounts c.self.invariant.sound c.self.view_is c.has_distinct_names.ensures in
    subst (λ (all : List Sizes). IfOk c.sizes_of_saved.result (λ sizes. map sizes_told sizes.items ≡ all))
    (ap (λ (all : List Named). map (sizes_by (holds_of pool)) all)
    (ap (to_save pool) c.deref.ensures.value
    ∙ saved-lent g.N.Naming.digest_of pool tenants c.in_ok-lent.lent.items c.self.invariant.accounts.stands c.in_ok-lent.ensures
    ∙ ap saved_of c.self.view_is)
    ∙ (λ i. map (sizes_by (λ content. counted content i)) (saved_of c.args.self.now)))
    c.sizes_of_saved.ensures
