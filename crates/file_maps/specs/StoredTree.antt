-- The files of a stored tree: git-ls-tree(1), with -r.
use Rattle.std.specs.Prelude.{◌≡◌, ◌≢◌, ℕ, List, [], ◌∷◌, ◌++◌, Some}
use Rattle.git_model.specs.declared.file_mode.FileMode.TheVariants as mode
use Rattle.git_model.specs.Repository.{Object, object_named}
use Rattle.git_model.specs.Tree.{TreeEntry, CanWriteTree}
use Rattle.file_maps.specs.declared.entry.Entry.{Entry}
use Rattle.file_maps.specs.FileMap.{Path, Listed}
use Rattle.file_maps.specs.Edits.{moved}
use Rattle.file_maps.specs.Trees.{tree_content}

-- Among these objects the one of this name is the tree with these direct entries. Whether the name
-- is the digest of the tree does not matter here.
pub record HasTree (os : List Object) (id : List ℕ) (es : List TreeEntry) : Type 0 where
  pub content : object_named id os ≡ Some (tree_content es)
  pub entries : CanWriteTree es

-- The file of an entry, at the path of its name.
abbrev pub file_from : TreeEntry → Path × Entry
file_from e = (e.name ∷ [], record { mode = e.mode; name = e.id })

-- What direct entries list, in their order: an entry that is not a directory lists its file, and a
-- directory lists what its tree lists, below the directory's name.
pub data Lists (os : List Object) : List TreeEntry → Listed → Type 0 where
  nothing : Lists os [] []
  first_file : (e : TreeEntry) (es : List TreeEntry) (files : Listed) → e.mode ≢ mode.Directory
      → Lists os es files
      → Lists os (e ∷ es) (file_from e ∷ files)
  first_directory : (e : TreeEntry) (es inside : List TreeEntry) (below files : Listed)
      → e.mode ≡ mode.Directory
      → HasTree os e.id inside → Lists os inside below → Lists os es files
      → Lists os (e ∷ es) (moved (e.name ∷ []) below ++ files)

-- The tree of a name has these files.
pub record ListsTree (os : List Object) (id : List ℕ) (files : Listed) : Type 0 where
  pub direct : List TreeEntry
  pub tree : HasTree os id direct
  pub lists : Lists os direct files

-- It has these files and no others: the files are a function of the tree.
pub record AreFilesOf (os : List Object) (id : List ℕ) (files : Listed) : Type 0 where
  pub listed : ListsTree os id files
  pub only : (others : Listed) → ListsTree os id others → others ≡ files
