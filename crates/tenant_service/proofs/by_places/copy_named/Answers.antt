use Rattle.std.proofs.Common.{ap, ◌∙◌}
use Rattle.std.specs.Str.{bytes_eq}
use Rattle.std.proofs.lemmas.Result.{err_from_is_err_and}
use Rattle.indexmap.specs.IndexMap.{insert_entry}
use Rattle.tenant_service.specs.Tenants.{Tenants}
use Rattle.tenant_service.proofs.PlaceLemmas.{all-copied, all-kept}
use Rattle.tenant_service.proofs.by_places.copy_named.Goals as goal

pub returns-in_err-copy : goal.returns-in_err-copy
returns-in_err-copy g c =
    let p = err_from_is_err_and c.from_residual-in_err-copy.result c.from_residual-in_err-copy.ensures.1 in
    rw p.1 (all-kept g.N.Naming.digest_of c.args.pool.now c.copy_of_named.new.pool
    c.args.tenants.now.entries c.copy_of_named.new.tenants.entries c.requires.accounts
    (c.copy_of_named.ensures.entries ∙ c.reserve.ensures.entries) c.in_err-copy.ensures.err)

pub returns : goal.returns
returns g c =
    all-copied g.N.Naming.digest_of c.args.pool.now c.copy_of_named.new.pool
    c.args.tenants.now.entries c.reserve.new.self.entries c.put_tenant.new.tenants.entries
    c.args.from.now c.args.to c.in-Some.copy c.in_ok-copy.field-0 c.requires.accounts c.requires.named
    c.requires.nothing c.reserve.ensures.entries
    (c.put_tenant.ensures
    ∙ ap (λ (es : Tenants). insert_entry bytes_eq es c.args.to c.in-Some.copy)
    (c.copy_of_named.ensures.entries ∙ c.reserve.ensures.entries))
    c.in-Some.is c.in_ok-copy.ensures.ok
