use Rattle.std.proofs.Common.{take}
use Rattle.pack_objects.specs.Entries.{Measures}
use Rattle.std.proofs.Common.{Ok}
use Rattle.pack_objects.proofs.entries.left_of.Given as goal

abbrev pub invariant-loop-id : goal.invariant-loop-id
invariant-loop-id g l = Measures l.objects (take l.id-index l.names) l.limit (Ok l.left)
