use Rattle.std.proofs.Common.{length}
use Rattle.tree_build.proofs.reading.+reading.Given as goal

abbrev pub decreases-stored_entry : goal.decreases-stored_entry
decreases-stored_entry g l = length l.rest.now
