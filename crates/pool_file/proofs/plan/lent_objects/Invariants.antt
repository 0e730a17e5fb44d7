use Rattle.std.proofs.Common.{◌≡◌, map, take}
use Rattle.pool_file_format.specs.Shown.{lent_object_of}
use Rattle.pool_file.specs.Lent.{objects_lent}
use Rattle.pool_file.proofs.plan.lent_objects.Given as goal

-- The objects are those before the place of the loop.
abbrev pub invariant-loop-listed : goal.invariant-loop-listed
invariant-loop-listed l = map lent_object_of l.objects.items
    ≡ objects_lent (take l.listed-index l.contents)
