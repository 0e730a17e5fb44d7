use Rattle.std.proofs.Common.{◌≡◌, ℕ, List, map, take}
use Rattle.pool_file.specs.Worth.{named_in}
use Rattle.tenant_service.specs.ComingIn.{held_with}
use Rattle.tenant_service.specs.TenantState.{held_of}
use Rattle.tenant_service.specs.Tenants.{Accounts, holdings}
use Rattle.tenant_service.proofs.merging.take_all_in.Given as goal

-- the tenants before the place have come
abbrev pub invariant-loop-place : goal.invariant-loop-place
invariant-loop-place g l = record {
  accounts : Accounts g.N.Naming.digest_of l.pool l.tenants.entries;
  held : (tenant : List ℕ) → held_of tenant (holdings l.pool l.tenants.entries)
      ≡ held_with tenant (map (named_in l.from) (take l.place l.lent))
      (holdings l.fn.pool l.fn.tenants.entries);
}
