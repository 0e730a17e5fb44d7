use Rattle.std.proofs.Common.{[]}
use Rattle.tenant_tables.specs.IsBackedBy.{IsBackedBy, PreservesOthers}
use Rattle.tenant_service.specs.Across.{HasFirst}
use Rattle.tenant_service.proofs.across.add_first.Given as goal

-- the objects before the place are there
abbrev pub invariant-loop-place : goal.invariant-loop-place
invariant-loop-place g l = record {
  stands : IsBackedBy g.N.Naming.digest_of l.pool l.made.entries;
  others : PreservesOthers l.fn.pool [] l.pool l.made.entries;
  first : HasFirst l.from l.table.entries l.place l.pool l.made.entries;
}
