use Rattle.std.proofs.Common.{◌≡◌, List, ◌++◌, length, All}
use Rattle.git_model.specs.Tree.{TreeEntry, CanWriteEntry, CanWriteTree, tree_contents}
use Rattle.git_objects.specs.Parts.{entries_of}
use Rattle.git_objects.proofs.TreeReads.{Remains}
use Rattle.git_objects.proofs.tree.read_tree.Given as goal

-- what was taken is a tree whose text stands at the front of the contents, and whatever entries
-- have these contents go on from there
abbrev pub invariant-loop-rest : goal.invariant-loop-rest
invariant-loop-rest l =
    CanWriteTree (entries_of l.entries.items)
    × (l.contents ≡ tree_contents (entries_of l.entries.items) ++ l.rest)
    ×
    ((es : List TreeEntry) → All CanWriteEntry es → l.contents ≡ tree_contents es → Remains es (entries_of l.entries.items) l.rest)

abbrev pub decreases-loop-rest : goal.decreases-loop-rest
decreases-loop-rest l = length l.rest
