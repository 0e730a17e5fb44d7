use Rattle.std.proofs.Common.{drop}
use Rattle.pool_file_checks.specs.Own.{own_objects}
use Rattle.pool_file.specs.Building.{objects_at}
use Rattle.pool_file.proofs.KnownTables.{AreKnownSoFar}
use Rattle.pool_file.proofs.tables.known_table.Given as goal

-- Those before the place of the loop are in the table.
abbrev pub invariant-loop-position : goal.invariant-loop-position
invariant-loop-position g l =
    AreKnownSoFar g.N.Naming.digest_of l.fn.pool l.pool l.made.entries (drop l.position l.sums)
    (drop l.position (own_objects g.N.Naming.digest_of (objects_at l.fn.pool l.slots) l.numbers))
    (own_objects g.N.Naming.digest_of (objects_at l.fn.pool l.slots) l.numbers)
