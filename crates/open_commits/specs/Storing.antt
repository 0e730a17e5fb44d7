-- Storing objects: git-hash-object(1), -w, and git-write-tree(1).
use Rattle.std.specs.Prelude.{◌≡◌, ℕ, List, ◌++◌, Option, None, Some, Result, Ok, Err}
use Rattle.git_model.specs.Content.{Content, name_by}
use Rattle.git_model.specs.Repository.{Object, with_object}
use Rattle.git_model.specs.Tree.{TreeEntry}
use Rattle.tenant_tables.specs.declared.fault.Fault.{Fault as TableFault}
use Rattle.tenant_tables.specs.Adding.{store_fault}
use Rattle.file_maps.specs.declared.fault.Fault.{Fault as FilesFault}
use Rattle.file_maps.specs.FileMap.{Listed}
use Rattle.file_maps.specs.Trees.{nested_trees}
use Rattle.file_maps.specs.Storing.{with_trees, trees_fault}
use Rattle.open_commits.specs.declared.fault.Fault.{Fault}
use Rattle.open_commits.specs.Faults.{storing_fault, editing_fault}

-- The objects after one is stored. An object that is there already is not stored again.
abbrev pub stored_or : List ℕ → Content → List Object → Option TableFault
    → Result (List Object) Fault
stored_or id content os None = Ok (with_object id content os)
stored_or id content os (Some refusal) = Err (storing_fault refusal)

-- The objects with a content that is stored.
abbrev pub stored : (List ℕ → List ℕ) → Content → List Object → Result (List Object) Fault
stored digest content os =
    stored_or (name_by digest content) content os (store_fault (name_by digest content) content os)

-- The objects after the trees of files are stored, children first. The first tree that is refused
-- decides.
abbrev pub trees_or : (List ℕ → List ℕ) → List (List TreeEntry) → List Object → Option FilesFault
    → Result (List Object) Fault
trees_or digest trees os None = Ok (with_trees digest trees os)
trees_or digest trees os (Some refusal) = Err (editing_fault refusal)

-- The objects with the trees of these files, children first.
abbrev pub trees_stored : (List ℕ → List ℕ) → Listed → List Object → Result (List Object) Fault
trees_stored digest files os = let trees = nested_trees digest files in
    trees_or digest trees os (trees_fault digest trees os)

-- Only some of these trees were added to the objects, and perhaps not all: the first ones in the
-- order of storing, none of which is refused.
pub record LeavesTrees (digest : List ℕ → List ℕ) (trees : List (List TreeEntry))
    (os new : List Object) : Type 0
  where
    pub done : List (List TreeEntry)
    pub rest : List (List TreeEntry)
    pub parts : trees ≡ done ++ rest
    pub objects : new ≡ with_trees digest done os
    pub unrefused : trees_fault digest done os ≡ None
