use Rattle.std.proofs.Common.{take}
use Rattle.commit_walk.specs.Marks.{Marks}
use Rattle.commit_walk.proofs.marks.mark_all.Given as goal

abbrev pub invariant-loop-id : goal.invariant-loop-id
invariant-loop-id g l = Marks l.objects l.floor l.initial.flags l.flags (take l.id-index l.ids)
