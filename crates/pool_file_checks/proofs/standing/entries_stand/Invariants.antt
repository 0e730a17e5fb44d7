use Rattle.std.proofs.Common.{drop}
use Rattle.std.specs.Prelude.{All}
use Rattle.git_objects.specs.Parts.{entries_of}
use Rattle.pool_file_checks.specs.Own.{objects_in}
use Rattle.pool_file_checks.specs.Connecting.{EntryStands}
use Rattle.pool_file_format.specs.Shown.{objects_of}
use Rattle.pool_file_checks.proofs.standing.entries_stand.Given as goal

-- Where those that are left stand, all do.
abbrev pub invariant-loop-entry : goal.invariant-loop-entry
invariant-loop-entry l = All (EntryStands (objects_in (objects_of l.objects) l.index.entries) l.place) (entries_of (drop l.entry-index l.entries))
    → All (EntryStands (objects_in (objects_of l.objects) l.index.entries) l.place) (entries_of l.entries)
