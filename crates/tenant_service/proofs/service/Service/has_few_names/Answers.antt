use Rattle.std.proofs.Common.{◌≡◌, ◌<◌, ◌^◌, true, length, arith, subst}
use Rattle.std.specs.List.{AllByRecursion}
use Rattle.std.specs.Map.{keys_of}
use Rattle.tenant_refs.specs.TenantName.{is_tenant_name}
use Rattle.tenant_service.specs.TenantState.{TenantStates}
use Rattle.tenant_service.proofs.BackLemmas.{names-held, length-holdings}
use Rattle.tenant_service.proofs.service.Service.has_few_names.Goals as goal

pub returns-clause-names : goal.returns-clause-names
returns-clause-names g c =
    subst (λ (all : TenantStates). AllByRecursion (λ name. is_tenant_name name ≡ true) (keys_of all))
    c.self.view_is
    (names-held c.self.inside.pool c.self.inside.tenants.entries c.self.invariant.accounts.names)

pub returns-clause-few : goal.returns-clause-few
returns-clause-few g c =
    let size = length-holdings c.self.inside.pool c.self.inside.tenants.entries in
    let len = c.len-many.ensures.len in
    let small = c.len-many.ensures.small in
    subst (λ (all : TenantStates). length all < 2 ^ 63) c.self.view_is (omega (arith, size, len, small))
