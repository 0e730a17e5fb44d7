use Rattle.std.proofs.Common.{drop}
use Rattle.std.specs.Prelude.{All}
use Rattle.pool_file_checks.specs.FileRefs.{IsGoodRef}
use Rattle.pool_file_format.specs.Shown.{objects_of, refs_of}
use Rattle.pool_file_checks.proofs.refs.are_good_refs.Given as goal

-- Where those that are left are good, all are.
abbrev pub invariant-loop-one : goal.invariant-loop-one
invariant-loop-one l = All (IsGoodRef l.front (objects_of l.objects) l.numbers) (refs_of (drop l.one-index l.refs))
    → All (IsGoodRef l.front (objects_of l.objects) l.numbers) (refs_of l.refs)
