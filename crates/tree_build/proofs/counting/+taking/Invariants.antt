use Rattle.std.proofs.Common.{◌+◌, ◌*◌, length}
use Rattle.tree_build.proofs.counting.+taking.Given as goal

abbrev pub decreases-taken : goal.decreases-taken
decreases-taken g l = 2 * length l.path.now

abbrev pub decreases-taken_below : goal.decreases-taken_below
decreases-taken_below g l = 2 * length l.rest.now + 1
