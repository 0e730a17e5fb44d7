use Rattle.std.proofs.Common.{drop}
use Rattle.std.specs.Prelude.{All}
use Rattle.pool_file_format.specs.Shown.{objects_of}
use Rattle.pool_file_checks.specs.Quick.{HasKind}
use Rattle.pool_file_checks.proofs.quick.have_kinds.Given as goal

-- Where those that are left have kinds, all do.
abbrev pub invariant-loop-object : goal.invariant-loop-object
invariant-loop-object l = All HasKind (objects_of (drop l.object-index l.objects)) → All HasKind (objects_of l.objects)
