use Rattle.std.proofs.Common.{◌≡◌, take}
use Rattle.export_text.specs.Marking.{with_flags}
use Rattle.export_text.proofs.marking.mark_all.Given as goal

abbrev pub invariant-loop-id : goal.invariant-loop-id
invariant-loop-id g l = l.flags ≡ with_flags l.objects l.initial.flags (take l.id-index l.ids)
