use Rattle.std.proofs.Common.{drop}
use Rattle.pool_file_checks.specs.Own.{own_objects}
use Rattle.pool_file_checks.specs.Sums.{Sums}
use Rattle.pool_file.specs.Building.{objects_at}
use Rattle.pool_file.proofs.LoadedTables.{AreLoaded}
use Rattle.pool_file.proofs.tables.load_table.Given as goal

-- Those before the place of the loop are loaded.
abbrev pub invariant-loop-position : goal.invariant-loop-position
invariant-loop-position g l = (noted : Sums)
    × AreLoaded g.N.Naming.digest_of l.fn.pool l.pool l.table.entries noted
    (drop l.position (own_objects g.N.Naming.digest_of (objects_at l.fn.pool l.slots) l.numbers))
    (own_objects g.N.Naming.digest_of (objects_at l.fn.pool l.slots) l.numbers)
