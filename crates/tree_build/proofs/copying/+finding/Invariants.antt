use Rattle.std.proofs.Common.{◌+◌, ◌*◌, length}
use Rattle.tree_build.proofs.copying.+finding.Given as goal

abbrev pub decreases-find_at : goal.decreases-find_at
decreases-find_at l = 2 * length l.path.now

abbrev pub decreases-find_below : goal.decreases-find_below
decreases-find_below l = 2 * length l.rest.now + 1
