use Rattle.std.proofs.Common.{◌≡◌, length}
use Rattle.tenant_service.specs.Tenants.{Accounts, holdings}
use Rattle.tenant_service.specs.OneStep.{first_restarted}
use Rattle.tenant_service.proofs.tenants.restart_all.Given as goal

-- the tenants before the place are restarted
abbrev pub invariant-loop-place : goal.invariant-loop-place
invariant-loop-place g l = record {
  accounts : Accounts g.N.Naming.digest_of l.pool l.tenants.entries;
  count : length l.tenants.entries ≡ length l.fn.tenants.entries;
  closed : holdings l.pool l.tenants.entries ≡ first_restarted l.place (holdings l.fn.pool l.fn.tenants.entries);
}
