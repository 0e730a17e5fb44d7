use Rattle.std.proofs.Common.{◌+◌, ◌*◌, length}
use Rattle.tree_build.proofs.dropping.+dropping.Given as goal

abbrev pub decreases-take_at : goal.decreases-take_at
decreases-take_at l = 3 * length l.path.now

abbrev pub decreases-take_below : goal.decreases-take_below
decreases-take_below l = 3 * length l.rest.now + 2

abbrev pub decreases-take_inside : goal.decreases-take_inside
decreases-take_inside l = 3 * length l.rest.now + 1
