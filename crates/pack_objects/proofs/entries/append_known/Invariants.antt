use Rattle.std.proofs.Common.{◌≡◌, ◌++◌, take}
use Rattle.pack_objects.specs.Entries.{entries_text}
use Rattle.pack_objects.proofs.entries.append_known.Given as goal

abbrev pub invariant-loop-id : goal.invariant-loop-id
invariant-loop-id g l = l.out.items ≡ l.fn.out.items ++ entries_text l.objects (take l.id-index l.names)
