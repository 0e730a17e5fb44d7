use Rattle.std.proofs.Common.{◌+◌, ◌*◌, length}
use Rattle.tree_build.proofs.putting.+putting.Given as goal

abbrev pub decreases-put_along : goal.decreases-put_along
decreases-put_along g l = 3 * length l.path.now

abbrev pub decreases-put_unopened : goal.decreases-put_unopened
decreases-put_unopened g l = 3 * length l.rest.now + 1

abbrev pub decreases-put_inside : goal.decreases-put_inside
decreases-put_inside g l = 3 * length l.rest.now + 2
