-- Storing trees one after another: git-write-tree(1).
use Rattle.std.specs.Prelude.{◌≡◌, ◌≢◌, ℕ, List, [], ◌∷◌, ◌++◌, Option, None}
use Rattle.std.specs.Prelude.{Some, Result, Ok, Err}
use Rattle.git_model.specs.Repository.{Object, with_object}
use Rattle.git_model.specs.Tree.{TreeEntry}
use Rattle.content_pool.specs.Pool.{Cells}
use Rattle.tenant_tables.specs.declared.fault.Fault.{Fault as TableFault}
use Rattle.tenant_tables.specs.declared.fault.Fault.TheVariants as table
use Rattle.tenant_tables.specs.declared.summary.Summary.{Summary}
use Rattle.tenant_tables.specs.View.{View, summary_of}
use Rattle.tenant_tables.specs.Objects.{objects}
use Rattle.tenant_tables.specs.IsBackedBy.{IsBackedBy, PreservesOthers}
pub use Rattle.tenant_tables.specs.Room.{HasHoldsLeftBeside}
use Rattle.tenant_tables.specs.Adding.{store_fault}
use Rattle.file_maps.specs.declared.fault.Fault.{Fault}
use Rattle.file_maps.specs.declared.fault.Fault.TheVariants as fault
use Rattle.file_maps.specs.Trees.{tree_content, tree_name}

-- Objects with trees added after them, in their order. A tree that is there is not added again.
abbrev pub with_trees : (List ℕ → List ℕ) → List (List TreeEntry) → List Object → List Object
with_trees digest [] os = os
with_trees digest (es ∷ trees) os =
    with_trees digest trees (with_object (tree_name digest es) (tree_content es) os)

-- The refusal of a table, as that of a branch.
abbrev pub as_fault : TableFault → Fault
as_fault table.Limit = fault.Limit
as_fault table.NameCollision = fault.NameCollision
as_fault table.Memory = fault.Memory

abbrev pub or_later : Option TableFault → Option Fault → Option Fault
or_later (Some e) later = Some (as_fault e)
or_later None later = later

-- Why trees cannot be added in their order: the first one that is refused decides.
abbrev pub trees_fault : (List ℕ → List ℕ) → List (List TreeEntry) → List Object → Option Fault
trees_fault digest [] os = None
trees_fault digest (es ∷ trees) os =
    or_later (store_fault (tree_name digest es) (tree_content es) os)
    (trees_fault digest trees (with_object (tree_name digest es) (tree_content es) os))

-- Trees were added, and nothing else has changed: the committed prefix, other tables and the
-- summaries that were there.
pub record AddsTrees (digest : List ℕ → List ℕ) (before : Cells) (old : View) (after : Cells)
    (new : View) (trees : List (List TreeEntry)) : Type 0 where
  pub stands : IsBackedBy digest after new.entries
  pub room : HasHoldsLeftBeside after new.entries
  pub others : PreservesOthers before old.entries after new.entries
  pub objects : objects after new.entries ≡ with_trees digest trees (objects before old.entries)
  pub committed : new.committed ≡ old.committed
  pub kept : (id : List ℕ) (s : Summary) → summary_of id old.entries ≡ Some s
      → summary_of id new.entries ≡ Some s

-- The first of some trees were added, and none of these is refused. One of the trees after them is,
-- or there was no memory.
pub record AddsSome (digest : List ℕ → List ℕ) (before : Cells) (old : View) (after : Cells)
    (new : View) (trees : List (List TreeEntry)) (e : Fault) : Type 0 where
  pub done : List (List TreeEntry)
  pub rest : List (List TreeEntry)
  pub parts : trees ≡ done ++ rest
  pub adds : AddsTrees digest before old after new done
  pub unrefused : trees_fault digest done (objects before old.entries) ≡ None
  pub refusal : e ≢ fault.Memory → trees_fault digest trees (objects before old.entries) ≡ Some e

-- What storing trees answers: the name of the last one, or a refusal.
abbrev pub StoresTrees : {name : Type 0} → Result name Fault → (List ℕ → List ℕ) → Cells → View
    → Cells → View → List (List TreeEntry) → name → Type 0
StoresTrees (Ok answer) digest before old after new trees id =
    (answer ≡ id) × (trees_fault digest trees (objects before old.entries) ≡ None)
    × AddsTrees digest before old after new trees
StoresTrees (Err e) digest before old after new trees id =
    AddsSome digest before old after new trees e
