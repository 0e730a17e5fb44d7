use Rattle.std.proofs.Common.{◌≡◌, ◌∙◌, IfOk, List, ap, map, subst, sym}
use Rattle.pool_file_checks.specs.Repositories.{Named}
use Rattle.pool_file.specs.declared.tenant_view.TenantView.{TenantView}
use Rattle.pool_file.specs.Worth.{AllStand, named_in}
use Rattle.tenant_service.specs.Sizes.{sizes_by, sizes_told}
use Rattle.tenant_service.specs.Tenants.{holds_of}
use Rattle.tenant_service.proofs.sizes.sizes_of_saved.Goals as goal

pub sizes_of_all-requires : goal.sizes_of_all-requires
sizes_of_all-requires g c =
    subst (λ (saved : List TenantView). AllStand g.N.Naming.digest_of c.args.pool.now saved)
    (sym c.deref.ensures.value)
    (c.in_ok-saved.ensures.stand g.N.Naming.digest_of c.args.pool.now c.requires)

pub returns : goal.returns
returns g c =
    let pool = c.args.pool.now in
    subst (λ (all : List Named). IfOk c.sizes_of_all.result (λ sizes. map sizes_told sizes.items ≡ map (sizes_by (holds_of pool)) all))
    (ap (λ (saved : List TenantView). map (named_in pool) saved) c.deref.ensures.value ∙ c.in_ok-saved.ensures.saved pool)
    c.sizes_of_all.ensures
