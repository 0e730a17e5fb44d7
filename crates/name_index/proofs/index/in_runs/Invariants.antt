use Rattle.std.proofs.Common.{◌≡◌, take, filter}
use Rattle.name_index.specs.Index.{names_of, is_between, two_of}
use Rattle.name_index.proofs.index.in_runs.Given as goal

abbrev pub invariant-loop-run : goal.invariant-loop-run
invariant-loop-run l =
    l.found ≡ two_of (filter (is_between l.first l.last) (names_of (take l.run-index l.runs)))
