use Rattle.std.proofs.Common.{take}
use Rattle.tenant_tables.specs.Sharing.{HoldsMore}
use Rattle.tenant_tables.proofs.table.Table.hold_all.Given as goal

-- The contents of the entries before the place of the loop are held.
abbrev pub invariant-loop-place : goal.invariant-loop-place
invariant-loop-place g l = HoldsMore l.fn.pool (take l.place l.self.entries) l.pool
