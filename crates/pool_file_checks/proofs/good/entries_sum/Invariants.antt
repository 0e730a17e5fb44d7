use Rattle.std.proofs.Common.{drop}
use Rattle.std.specs.Prelude.{All}
use Rattle.git_objects.specs.Parts.{entries_of}
use Rattle.pool_file_checks.specs.Own.{objects_in}
use Rattle.pool_file_checks.specs.Connecting.{EntryStands}
use Rattle.pool_file_checks.specs.Quick.{AreKept}
use Rattle.pool_file_checks.specs.Sums.{IsWithin, Sums}
use Rattle.pool_file_format.specs.Shown.{objects_of}
use Rattle.pool_file_checks.proofs.SumLemmas.{Summed}
use Rattle.pool_file_checks.proofs.good.entries_sum.Given as goal

-- The entries that are left decide about all.
abbrev pub invariant-loop-entry : goal.invariant-loop-entry
invariant-loop-entry l = IsWithin l.sum
    × ((All (EntryStands (objects_in (objects_of l.objects) l.index.entries) l.place) (entries_of (drop l.entry-index l.entries))
    → All (EntryStands (objects_in (objects_of l.objects) l.index.entries) l.place) (entries_of l.entries))
    × ((noted : Sums) → AreKept (objects_in (objects_of l.objects) l.index.entries) l.place l.sums noted
    → Summed noted l.sum (entries_of (drop l.entry-index l.entries)) (entries_of l.entries)))
