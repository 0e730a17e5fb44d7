use Rattle.std.proofs.Common.{◌≡◌, take}
use Rattle.name_index.specs.Index.{most_shared, names_of}
use Rattle.name_index.proofs.index.most_in_runs.Given as goal

abbrev pub invariant-loop-run : goal.invariant-loop-run
invariant-loop-run l = l.most ≡ most_shared l.id (names_of (take l.run-index l.runs))
