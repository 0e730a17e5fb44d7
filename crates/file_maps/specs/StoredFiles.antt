-- The files of a stored tree, and of a commit, as functions: git-ls-tree(1), with -r.
use Rattle.std.specs.Prelude.{ℕ, zero, suc, List, [], ◌∷◌, length}
use Rattle.std.specs.FinMap as finmap
use Rattle.std.specs.List.{flat_map}
use Rattle.git_model.specs.declared.file_mode.FileMode.{FileMode}
use Rattle.git_model.specs.declared.file_mode.FileMode.TheVariants as mode
use Rattle.git_model.specs.Tree.{TreeEntry}
use Rattle.git_model.specs.CommitReading.{commit_read}
use Rattle.git_model.specs.Repository.{Object}
use Rattle.git_model.specs.References.{content_named}
use Rattle.git_model.specs.StoredPath.{entries_of}
use Rattle.file_maps.specs.FileMap.{Listed, FileMap}
use Rattle.file_maps.specs.Edits.{moved, with_files}
use Rattle.file_maps.specs.StoredTree.{file_from}

-- What an entry lists: for a directory what its tree lists, below the directory's name; for every
-- other entry its file.
abbrev pub listed_by : FileMode → TreeEntry → Listed → Listed
listed_by mode.Directory e below = moved (e.name ∷ []) below
listed_by mode.Regular e below = file_from e ∷ []
listed_by mode.Executable e below = file_from e ∷ []
listed_by mode.Symlink e below = file_from e ∷ []
listed_by mode.Gitlink e below = file_from e ∷ []

-- What the tree of a name lists, at most so many levels deep.
unfoldable pub listed_within : List Object → ℕ → List ℕ → Listed
listed_within os zero tree = []
listed_within os (suc levels) tree =
    flat_map (λ e. listed_by e.mode e (listed_within os levels e.id)) (entries_of os tree)

-- The files of a stored tree. A tree stands after those below it, so it has no more levels than
-- there are objects.
abbrev pub stored_files : List Object → List ℕ → Listed
stored_files os tree = listed_within os (length os) tree

-- The same as a file map, and that of a commit's tree.
abbrev pub stored_map : List Object → List ℕ → FileMap
stored_map os tree = with_files finmap.empty (stored_files os tree)

abbrev pub tree_of_commit : List Object → List ℕ → List ℕ
tree_of_commit os commit = (commit_read (content_named commit os).bytes).tree

abbrev pub commit_map : List Object → List ℕ → FileMap
commit_map os commit = stored_map os (tree_of_commit os commit)
