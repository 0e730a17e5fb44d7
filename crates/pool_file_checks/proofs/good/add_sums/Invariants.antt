use Rattle.std.proofs.Common.{◌≡◌, ◌≤◌, length}
use Rattle.pool_file_format.specs.Shown.{objects_of}
use Rattle.pool_file_checks.specs.Own.{objects_in}
use Rattle.pool_file_checks.specs.Quick.{AreGoodFirst}
use Rattle.pool_file_checks.proofs.good.add_sums.Given as goal

abbrev pub invariant-loop-place : goal.invariant-loop-place
invariant-loop-place l = AreGoodFirst (objects_in (objects_of l.objects) l.index.entries) l.initial.sums.items
    → length l.initial.sums.items ≤ length l.index.entries
    → AreGoodFirst (objects_in (objects_of l.objects) l.index.entries) l.sums.items × ((length l.sums.items ≡ l.place) × (l.place ≤ length l.index.entries))
