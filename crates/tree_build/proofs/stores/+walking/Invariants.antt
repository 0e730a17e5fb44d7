use Rattle.std.proofs.Common.{◌+◌, ◌*◌, length}
use Rattle.tree_build.proofs.stores.+walking.Given as goal

abbrev pub decreases-store_path : goal.decreases-store_path
decreases-store_path g l = 2 * length l.path.now

abbrev pub decreases-store_below : goal.decreases-store_below
decreases-store_below g l = 2 * length l.rest.now + 1
