-- Putting a stored tree, for private contracts: the limits by its summary, and the root.
use Rattle.std.specs.Prelude.{◌≡◌, ◌⊎◌, ℕ, ◌==◌, Bool, true, ◌&&◌, if◌then◌else◌, List, Some}
use Rattle.tenant_tables.specs.declared.summary.Summary.{Summary}
use Rattle.file_maps.specs.FileMap.{Path}
use Rattle.file_maps.specs.Grafts.{is_small}
use Rattle.tree_build.specs.Shape.{unopened, none}
use Rattle.tree_build.specs.Branch.{Branch, root_name}
use Rattle.tree_build.specs.Moving.{fits_below}

-- Whether files with this summary may be put below a path. If there are none, they may.
abbrev pub may_stand : Path → Summary → Bool
may_stand path s = if s.files == 0 then true else is_small s && fits_below path s

-- A branch whose root is an unopened stored tree with this many files.
abbrev pub with_tree : List ℕ → ℕ → Branch → Branch
with_tree id files b =
    record { root = record { what = unopened id; inside = none }; files = files; reads = b.reads }

-- The stored tree replaced the root, unless the root was known to be that tree.
pub record TakesTree (id : List ℕ) (files : ℕ) (old new : Branch) : Type 0 where
  pub taken : ((root_name old ≡ Some id) × (new ≡ old)) ⊎ (new ≡ with_tree id files old)
  pub kept : root_name old ≡ Some id → new ≡ old
