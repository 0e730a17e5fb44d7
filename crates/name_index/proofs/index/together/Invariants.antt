use Rattle.std.proofs.Common.{◌≡◌, take}
use Rattle.name_index.specs.Index.{names_of}
use Rattle.name_index.proofs.index.together.Given as goal

abbrev pub invariant-loop-run : goal.invariant-loop-run
invariant-loop-run l = l.names.items ≡ names_of (take l.run-index l.runs)
