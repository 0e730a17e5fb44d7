use Rattle.std.proofs.Common.{drop}
use Rattle.pool_file.proofs.StoredContents.{AreReleased}
use Rattle.pool_file.proofs.contents.release_contents.Given as goal

-- Those before the place of the loop are released.
abbrev pub invariant-loop-slot : goal.invariant-loop-slot
invariant-loop-slot g l = AreReleased l.fn.pool l.pool (drop l.slot-index l.slots) l.slots
