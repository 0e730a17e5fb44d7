use Rattle.std.proofs.Common.{◌≡◌, take}
use Rattle.export_text.proofs.Marked.{entry-names}
use Rattle.export_text.proofs.referring.names_of_entries.Given as goal

abbrev pub invariant-loop-entry : goal.invariant-loop-entry
invariant-loop-entry l = l.ids.items ≡ entry-names (take l.entry-index l.entries)
