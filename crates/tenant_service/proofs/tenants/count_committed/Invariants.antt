use Rattle.std.proofs.Common.{◌≡◌, ◌≤◌, take}
use Rattle.std.specs.Prelude.{count_by}
use Rattle.tenant_service.specs.Tenants.{has_committed}
use Rattle.tenant_service.proofs.tenants.count_committed.Given as goal

-- those before the place were counted
abbrev pub invariant-loop-place : goal.invariant-loop-place
invariant-loop-place l = record {
  counted : l.count ≡ count_by (λ e. has_committed e.1.table) (take l.place l.tenants.entries);
  bound : l.count ≤ l.place;
}
