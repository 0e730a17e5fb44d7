use Rattle.std.proofs.Common.{◌+◌, ◌*◌, length}
use Rattle.tree_build.proofs.placing.+placing.Given as goal

abbrev pub decreases-place : goal.decreases-place
decreases-place l = 3 * length l.path.now

abbrev pub decreases-place_below : goal.decreases-place_below
decreases-place_below l = 3 * length l.rest.now + 2

abbrev pub decreases-place_inside : goal.decreases-place_inside
decreases-place_inside l = 3 * length l.rest.now + 1
