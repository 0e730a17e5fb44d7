use Rattle.std.proofs.Common.{◌≡◌, ℕ, List, take}
use Rattle.tenant_service.specs.ComingIn.{held_without, names_lent}
use Rattle.tenant_service.specs.TenantState.{held_of}
use Rattle.tenant_service.specs.Tenants.{Accounts, holdings}
use Rattle.tenant_service.proofs.merging.take_all_out.Given as goal

-- the tenants before the place have nothing
abbrev pub invariant-loop-one : goal.invariant-loop-one
invariant-loop-one g l = record {
  accounts : Accounts g.N.Naming.digest_of l.pool l.tenants.entries;
  held : (tenant : List ℕ) → held_of tenant (holdings l.pool l.tenants.entries)
      ≡ held_without tenant (names_lent (take l.one-index l.lent))
      (holdings l.fn.pool l.fn.tenants.entries);
}
