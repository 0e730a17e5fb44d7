use Rattle.std.proofs.Common.{◌≡◌, take}
use Rattle.tenant_tables.specs.Objects.{objects}
use Rattle.tenant_service.specs.Sizes.{own_size, size, total}
use Rattle.tenant_service.specs.Tenants.{holds_of}
use Rattle.tenant_service.proofs.sizes.totals.Given as goal

-- the objects before the place are in the sums
abbrev pub invariant-loop-place : goal.invariant-loop-place
invariant-loop-place g l = record {
  all : l.all ≡ total size (take l.place (objects l.pool l.view.table.now.entries));
  own : l.own ≡ total (own_size (holds_of l.pool)) (take l.place (objects l.pool l.view.table.now.entries));
}
