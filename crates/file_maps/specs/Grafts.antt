-- Putting a stored tree at a path: git-fast-import(1), "filemodify" with mode 040000. These are not
-- Git's grafts.
use Rattle.std.specs.Prelude.{◌≡◌, ℕ, List, Option, None, Some, Result}
use Rattle.git_model.specs.Content.{Content}
use Rattle.git_model.specs.Repository.{Object, object_named}
use Rattle.file_maps.specs.declared.fault.Fault.{Fault}
use Rattle.file_maps.specs.declared.fault.Fault.TheVariants as fault
use Rattle.file_maps.specs.FileMap.{Path, Listed, FileMap}
use Rattle.file_maps.specs.Edits.{moved, put_tree_at, put_fault}
use Rattle.file_maps.specs.Calls.{Edits}
use Rattle.file_maps.specs.StoredTree.{AreFilesOf}
use Rattle.std.specs.Prelude.{Bool, ◌&&◌, nat_le}
use Rattle.git_model.specs.Limits.{files_limit, path_bytes_limit, path_components_limit}
use Rattle.tenant_tables.specs.declared.summary.Summary.{Summary}
use Rattle.tenant_tables.specs.SumIn.{sum_in}

-- Why the files of an object cannot be put, by the object and its summary: there is none, or it is
-- no tree with a summary. So a tree is refused if its files cannot be those of a branch.
abbrev pub content_fault : Option Content → Option Summary → Option Fault
content_fault None sum = Some fault.ObjectUnknown
content_fault (Some c) None = Some fault.WrongKind
content_fault (Some c) (Some s) = None

abbrev pub tree_fault : List Object → List ℕ → Option Fault
tree_fault os id = content_fault (object_named id os) (sum_in os id)

abbrev pub or_else : Option Fault → Option Fault → Option Fault
or_else (Some e) later = Some e
or_else None later = later

-- Why a stored tree cannot be put: it is refused, or else its files cannot be put. `after` is the
-- map with its files put.
abbrev pub graft_fault : List Object → List ℕ → Listed → FileMap → Option Fault
graft_fault os id files after = or_else (tree_fault os id) (put_fault files after)

-- What putting the tree of a name at a path answers and leaves. Where the tree is not refused,
-- `files` are its files.
pub record Grafts {A : Type 0} (result : Result A Fault) (os : List Object) (id : List ℕ)
    (path : Path) (old new : FileMap) : Type 0 where
  pub files : Listed
  pub listed : tree_fault os id ≡ None → AreFilesOf os id files
  pub edits : Edits result old new
      (graft_fault os id (moved path files) (put_tree_at old path files))
      (put_tree_at old path files)

-- A tree is small where its files could stand at the root of a branch.
abbrev pub is_small : Summary → Bool
is_small s =
    nat_le s.files files_limit && nat_le s.depth path_components_limit
    && nat_le s.longest path_bytes_limit
