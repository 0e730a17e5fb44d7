use Rattle.std.proofs.Common.{◌≡◌, ◌++◌, take, codes}
use Rattle.std.specs.List.{flat_map}
use Rattle.git_model.specs.Commit.{name_line}
use Rattle.git_objects.proofs.commit.append_parents.Given as goal

abbrev pub invariant-loop-parent : goal.invariant-loop-parent
invariant-loop-parent l =
    l.contents.items ≡ l.initial.contents.items ++ flat_map (name_line (codes "parent ")) (take l.parent-index l.ancestors)
