use Rattle.std.proofs.Common.{◌≡◌, length, take}
use Rattle.tenant_tables.proofs.entry_list.shorten.Given as goal

abbrev pub invariant-loop-objects : goal.invariant-loop-objects
invariant-loop-objects l = take l.kept l.objects.entries ≡ take l.kept l.fn.objects.entries

abbrev pub decreases-loop-objects : goal.decreases-loop-objects
decreases-loop-objects l = length l.objects.entries
