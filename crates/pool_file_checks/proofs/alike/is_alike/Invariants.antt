use Rattle.std.proofs.Common.{◌≡◌, length}
use Rattle.pool_file_format.specs.Shown.{objects_of}
use Rattle.pool_file_checks.specs.Alike.{Agree}
use Rattle.pool_file_checks.specs.Own.{objects_in}
use Rattle.pool_file_checks.proofs.AlikeEntries.{Leads}
use Rattle.pool_file_checks.proofs.alike.is_alike.Given as goal

abbrev pub invariant-loop-equal : goal.invariant-loop-equal
invariant-loop-equal l = (length l.left ≡ length l.right)
    × Agree l.equal l.left l.right
    × Leads (objects_in (objects_of l.objects) l.index.entries) l.place l.sums l.old l.new l.left l.right

abbrev pub decreases-loop-equal : goal.decreases-loop-equal
decreases-loop-equal l = length l.left
