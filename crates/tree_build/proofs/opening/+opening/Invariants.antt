use Rattle.std.proofs.Common.{◌+◌, ◌*◌, length}
use Rattle.tree_build.proofs.opening.+opening.Given as goal

abbrev pub decreases-open_along : goal.decreases-open_along
decreases-open_along g l = 2 * length l.path.now

abbrev pub decreases-open_below : goal.decreases-open_below
decreases-open_below g l = 2 * length l.rest.now + 1
