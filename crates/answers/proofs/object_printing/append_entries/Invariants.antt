use Rattle.std.proofs.Common.{◌≡◌, ◌++◌, take}
use Rattle.std.specs.List.{flat_map}
use Rattle.git_objects.specs.Parts.{entries_of}
use Rattle.answers.specs.Printed.{tree_line}
use Rattle.answers.proofs.object_printing.append_entries.Given as goal

abbrev pub invariant-loop-entry : goal.invariant-loop-entry
invariant-loop-entry l = l.out.items
    ≡ l.initial.out.items ++ flat_map tree_line (entries_of (take l.entry-index l.entries))
