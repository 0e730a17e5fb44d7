-- Trees that are those of file maps, so that storing their files again adds nothing:
-- git-write-tree(1).
use Rattle.std.specs.Prelude.{◌≡◌, ◌≢◌, ℕ, ◌≤◌, List, [], length, All, None}
use Rattle.git_model.specs.declared.file_mode.FileMode.TheVariants as mode
use Rattle.git_model.specs.Limits.{contents_limit}
use Rattle.git_model.specs.Repository.{Object}
use Rattle.git_model.specs.Tree.{TreeEntry, tree_contents}
use Rattle.file_maps.specs.FileMap.{Listed}
use Rattle.file_maps.specs.Trees.{tree_name, tree_id, tree_entries, nested_trees}
use Rattle.file_maps.specs.StoredTree.{HasTree}
use Rattle.file_maps.specs.Storing.{with_trees, trees_fault}

-- Which trees are meant: every one, or those of which this is true.
abbrev pub Every : List ℕ → Type 0
Every id = Unit {0}

-- A directory's tree is among the objects, has entries, and is meant.
pub record HasEntries (os : List Object) (Meant : List ℕ → Type 0) (id : List ℕ) : Type 0 where
  pub inside : List TreeEntry
  pub tree : HasTree os id inside
  pub some : inside ≢ []
  pub meant : Meant id

abbrev pub IsFilled : List Object → (List ℕ → Type 0) → TreeEntry → Type 0
IsFilled os Meant e = e.mode ≡ mode.Directory → HasEntries os Meant e.id

-- Each tree among the objects has its own name, and is no longer than a table takes. Each that is
-- meant has no empty directory, and the trees of its directories are meant.
pub record AreTreesGood (digest : List ℕ → List ℕ) (os : List Object) (Meant : List ℕ → Type 0)
    : Type 0 where
  pub named : (id : List ℕ) (es : List TreeEntry) → HasTree os id es → id ≡ tree_name digest es
  pub short : (id : List ℕ) (es : List TreeEntry) → HasTree os id es
      → length (tree_contents es) ≤ contents_limit
  pub filled : (id : List ℕ) (es : List TreeEntry) → HasTree os id es → Meant id
      → All (IsFilled os Meant) es

-- The files of the tree of a name make that tree and its name again. All trees that they make are
-- among the objects, so that storing them adds none, and none is refused.
pub record IsStoredAlready (digest : List ℕ → List ℕ) (os : List Object) (id : List ℕ)
    (files : Listed) : Type 0 where
  pub tree : HasTree os id (tree_entries digest files)
  pub name : tree_id digest files ≡ id
  pub kept : with_trees digest (nested_trees digest files) os ≡ os
  pub unrefused : trees_fault digest (nested_trees digest files) os ≡ None
