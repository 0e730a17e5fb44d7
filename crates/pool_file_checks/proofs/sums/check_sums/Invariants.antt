use Rattle.pool_file_format.specs.Shown.{objects_of}
use Rattle.pool_file_checks.specs.Own.{objects_in}
use Rattle.pool_file_checks.proofs.SumLemmas.{Settles}
use Rattle.pool_file_checks.proofs.sums.check_sums.Given as goal

-- The objects that are left decide about all.
abbrev pub invariant-loop-id : goal.invariant-loop-id
invariant-loop-id l = Settles l.sums.entries (objects_in (objects_of l.objects) l.id-iterator) (objects_in (objects_of l.objects) l.index.entries)
