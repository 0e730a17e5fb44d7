-- Trees that have a summary: their files are known, and are within the limits of a branch. Only the files of such a tree
-- can be those of a branch.
use Rattle.std.specs.Prelude.{ℕ, List, IsSome}
use Rattle.git_model.specs.Repository.{Object}
use Rattle.tenant_tables.specs.SumIn.{sum_in}
use Rattle.file_maps.specs.FileMap.{Listed}
use Rattle.file_maps.specs.StoredTree.{ListsTree}

-- The object of a name is a tree that has a summary.
abbrev pub HasSummary : List Object → List ℕ → Type 0
HasSummary os id = IsSome (sum_in os id)

-- The tree of a name has a summary and these files.
pub record ListsPlain (os : List Object) (id : List ℕ) (files : Listed) : Type 0 where
  pub tree : ListsTree os id files
  pub plain : HasSummary os id
