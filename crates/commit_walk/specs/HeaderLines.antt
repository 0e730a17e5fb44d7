-- What follows the first lines in the contents of a commit.
use Rattle.std.specs.Prelude.{ℕ, List, ◌++◌, codes}
use Rattle.std.specs.List.{flat_map}
use Rattle.git_model.specs.Commit.{line}
use Rattle.git_model.specs.Readable.{CommitFront}

-- What follows the tree line: the lines of the parents, and the rest.
abbrev pub after_tree : CommitFront → List ℕ → List ℕ
after_tree front rest = flat_map (line (codes "parent ")) front.parents ++ rest
