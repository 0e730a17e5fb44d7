use Rattle.std.proofs.Common.{length}
use Rattle.git_model.specs.declared.kind.Kind.TheVariants as kind
use Rattle.git_model.specs.Readable.{IsReadable}
use Rattle.git_objects.specs.Parts.{entries_of}
use Rattle.git_objects.specs.RawEntries.{EntriesSoFar}
use Rattle.git_objects.proofs.tree.look_tree.Given as goal

-- where the whole can be read, so can what is left
abbrev pub invariant-loop-rest : goal.invariant-loop-rest
invariant-loop-rest l =
    EntriesSoFar l.contents (entries_of l.entries.items) l.rest
    × (IsReadable kind.Tree l.contents → IsReadable kind.Tree l.rest)

abbrev pub decreases-loop-rest : goal.decreases-loop-rest
decreases-loop-rest l = length l.rest
