use Rattle.std.proofs.Common.{◌≡◌, ◌++◌, take}
use Rattle.git_model.specs.Tree.{tree_contents}
use Rattle.git_objects.specs.Parts.{entries_of}
use Rattle.git_objects.proofs.tree.append_entries.Given as goal

abbrev pub invariant-loop-entry : goal.invariant-loop-entry
invariant-loop-entry l =
    l.contents.items ≡ l.initial.contents.items ++ tree_contents (entries_of (take l.entry-index l.entries))
