-- How the files of a stored tree are gathered, for private contracts.
use Rattle.std.specs.Prelude.{◌≡◌, ℕ, Bool, ◌==◌, List, [], ◌∷◌, ◌++◌, Option}
use Rattle.std.specs.Option.{unwrap_or}
use Rattle.git_model.specs.Repository.{Object}
use Rattle.git_model.specs.Tree.{TreeEntry}
use Rattle.tenant_tables.specs.declared.summary.Summary.{Summary}
use Rattle.tenant_tables.specs.Trees.{no_files}
use Rattle.file_maps.specs.FileMap.{Path, Listed}
use Rattle.file_maps.specs.Edits.{moved}
use Rattle.file_maps.specs.StoredTree.{Lists, ListsTree}

-- Whether a tree has no files.
abbrev pub has_none : Option Summary → Bool
has_none s = (unwrap_or s no_files).files == 0

-- Files were appended: those of the tree of a name, with `top` put before each of their paths.
pub record Gathers (os : List Object) (top : Path) (id : List ℕ) (old new : Listed) : Type 0 where
  pub files : Listed
  pub listed : ListsTree os id files
  pub appended : new ≡ old ++ moved top files

-- Files were appended: those that an entry of a tree lists, with `top` put before each of their
-- paths.
pub record GathersEntry (os : List Object) (top : Path) (e : TreeEntry) (old new : Listed) : Type 0
  where
    pub files : Listed
    pub lists : Lists os (e ∷ []) files
    pub appended : new ≡ old ++ moved top files
