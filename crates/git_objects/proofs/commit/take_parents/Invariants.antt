use Rattle.std.proofs.Common.{◌≡◌, ◌++◌, All, length, codes}
use Rattle.std.specs.List.{flat_map}
use Rattle.git_model.specs.ObjectName.{IsObjectName}
use Rattle.git_model.specs.Commit.{name_line}
use Rattle.git_objects.proofs.commit.take_parents.Given as goal

abbrev pub invariant-loop-parent : goal.invariant-loop-parent
invariant-loop-parent l =
    All IsObjectName l.ancestors.items
    × (l.bytes ≡ flat_map (name_line (codes "parent ")) l.ancestors.items ++ l.rest)

abbrev pub decreases-loop-parent : goal.decreases-loop-parent
decreases-loop-parent l = length l.rest
