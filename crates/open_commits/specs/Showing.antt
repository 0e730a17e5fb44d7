-- What is at a path of an open commit: git-fast-import(1), "ls", with a path alone.
use Rattle.std.specs.Prelude.{ℕ, List, [], Option, None, Some, Result, Ok}
use Rattle.git_model.specs.declared.file_mode.FileMode.{FileMode}
use Rattle.git_model.specs.declared.file_mode.FileMode.TheVariants as mode
use Rattle.git_model.specs.Repository.{Object}
use Rattle.git_model.specs.Tree.{TreeEntry}
use Rattle.file_maps.specs.declared.entry.Entry.{Entry}
use Rattle.file_maps.specs.FileMap.{Path, FileMap}
use Rattle.file_maps.specs.Edits.{files_at}
use Rattle.file_maps.specs.Trees.{entry_at, nested_trees}
use Rattle.open_commits.specs.declared.fault.Fault.{Fault}
use Rattle.git_model.specs.Results.{and_then}
use Rattle.open_commits.specs.Storing.{trees_stored}

-- The entry that is shown, and the objects afterwards.
pub record Shown : Type 0 where
  pub entry : Option Entry
  pub objects : List Object

-- For a directory, its trees are stored, children first.
abbrev pub file_or_trees : (List ℕ → List ℕ) → List Object → FileMap → Path → FileMode
    → Result (List Object) Fault
file_or_trees digest os files path mode.Directory = trees_stored digest (files_at files path) os
file_or_trees digest os files path file = Ok os

-- What was found is shown: an entry, and the trees of a directory; or that nothing is there.
abbrev pub found_shown : (List ℕ → List ℕ) → List Object → FileMap → Path → Option Entry
    → Result Shown Fault
found_shown digest os files path None = Ok (record { entry = None; objects = os })
found_shown digest os files path (Some e) =
    and_then (file_or_trees digest os files path e.mode) (λ more.
    Ok (record { entry = Some e; objects = more }))

-- What is at a path of the files of a commit.
abbrev pub commit_entry_shown : (List ℕ → List ℕ) → List Object → FileMap → Path → Result Shown Fault
commit_entry_shown digest os files path =
    found_shown digest os files path (entry_at digest files path)

-- The trees that are stored for what is at a path: those of a directory, and none for a file or for
-- nothing.
abbrev pub trees_by_mode : FileMode → List (List TreeEntry) → List (List TreeEntry)
trees_by_mode mode.Directory trees = trees
trees_by_mode file trees = []

-- The trees of what was found.
abbrev pub trees_of_entry : Option Entry → List (List TreeEntry) → List (List TreeEntry)
trees_of_entry None trees = []
trees_of_entry (Some e) trees = trees_by_mode e.mode trees

-- The trees of what is at a path of these files.
abbrev pub shown_trees : (List ℕ → List ℕ) → FileMap → Path → List (List TreeEntry)
shown_trees digest files path =
    trees_of_entry (entry_at digest files path) (nested_trees digest (files_at files path))
