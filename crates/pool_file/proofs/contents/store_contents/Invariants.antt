use Rattle.std.specs.Vec.Iter.{into_iter_items}
use Rattle.pool_file_format.specs.Shown.{objects_of}
use Rattle.pool_file.proofs.StoredContents.{AreStored}
use Rattle.pool_file.proofs.contents.store_contents.Given as goal

-- Those before the place of the loop are stored.
abbrev pub invariant-loop-object : goal.invariant-loop-object
invariant-loop-object g l = AreStored l.pool l.slots.items (objects_of (into_iter_items l.object-iterator)) (objects_of l.fn.objects.items)
