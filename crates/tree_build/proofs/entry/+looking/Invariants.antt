use Rattle.std.proofs.Common.{◌+◌, ◌*◌, length}
use Rattle.tree_build.proofs.entry.+looking.Given as goal

abbrev pub decreases-entry_at : goal.decreases-entry_at
decreases-entry_at g l = 2 * length l.path.now

abbrev pub decreases-entry_below : goal.decreases-entry_below
decreases-entry_below g l = 2 * length l.rest.now + 1
