use Rattle.pool_file.specs.Tables.{BeginAlike}
use Rattle.pool_file.proofs.tables.common_front.Given as goal

-- The objects before the place of the loop are alike.
abbrev pub invariant-loop-place : goal.invariant-loop-place
invariant-loop-place l = BeginAlike l.table.entries l.slots l.numbers l.place
