use Rattle.std.proofs.Common.{◌≡◌, take}
use Rattle.pool_file_checks.specs.Own.{names_of}
use Rattle.pool_file_format.specs.Shown.{objects_of}
use Rattle.pool_file_checks.proofs.naming.name_objects.Given as goal

abbrev pub invariant-loop-object : goal.invariant-loop-object
invariant-loop-object g l = l.names.items ≡ names_of g.N.Naming.digest_of (objects_of (take l.object-index l.objects))
