use Rattle.std.proofs.Common.{◌≡◌, take}
use Rattle.tenant_tables.specs.Objects.{objects}
use Rattle.tenant_tables.specs.Copied.{objects_at}
use Rattle.tenant_tables.proofs.Copies.{HasFirst}
use Rattle.tenant_tables.proofs.copying.add_places.Given as goal

-- the objects at the places so far are there
abbrev pub invariant-loop-place : goal.invariant-loop-place
invariant-loop-place g l = record {
  first : HasFirst g.N.Naming.digest_of l.fn.pool l.table.entries l.pool l.made.entries
      (objects_at (objects l.fn.pool l.table.entries) (take l.place-index l.places));
  committed : l.made.committed ≡ l.fn.made.committed;
}
