-- Putting a node at a path of a branch, for private contracts.
use Rattle.std.specs.Prelude.{◌≡◌, ◌≢◌, ℕ, ◌+◌, ◌≤◌, List, [], length, None, Result, Err, OnOk}
use Rattle.std.specs.FinMap as finmap
use Rattle.git_model.specs.Limits.{files_limit}
use Rattle.git_model.specs.Repository.{Object}
use Rattle.git_paths.specs.Paths.{strip_prefix}
use Rattle.file_maps.specs.declared.fault.Fault.{Fault}
use Rattle.file_maps.specs.declared.fault.Fault.TheVariants as fault
use Rattle.file_maps.specs.Calls.{Edits}
use Rattle.file_maps.specs.Edits.{put_tree_at}
use Rattle.file_maps.specs.FileMap.{Path, FileMap, AreFiles, listed}
use Rattle.file_maps.specs.StoredFiles.{stored_files}
use Rattle.tree_build.specs.Shape.{Held, held_files}
use Rattle.tree_build.specs.Branch.{Branch, root_files, files_in, IsHeld, IsBranch, closed_from}
use Rattle.tree_build.specs.Opened.{recounted, too_many}

-- The files of a branch after a node was put at a path.
abbrev pub with_node_at : List Object → Path → Held → Branch → FileMap
with_node_at os path h b = put_tree_at (files_in os b) path (held_files (stored_files os) h)

-- A node with files may be put at a path to which the directories are opened. `total` is the number
-- of the files before that, plus those of the node.
pub record MayPut (os : List Object) (path : Path) (h : Held) (total : ℕ) (b : Branch)
    : Type 0 where
  pub branch : IsBranch os (recounted os b)
  pub shut : closed_from b.root path ≡ 0
  pub held : IsHeld os h
  pub full : held_files (stored_files os) h ≢ []
  pub counted : total ≡ length (root_files os b) + length (held_files (stored_files os) h)
  pub good : finmap.len (with_node_at os path h b) ≤ files_limit
      → AreFiles (listed (with_node_at os path h b))

-- The node was put there, and the files that were at the path, below it, or at a prefix of it are
-- gone; or nothing changed, as there would be too many files. After `Memory` the branch is not
-- specified.
pub record PutsNode (os : List Object) (result : Result (Unit {0}) Fault) (path : Path) (h : Held)
    (old new : Branch) : Type 0 where
  pub edits : Edits result (files_in os old) (files_in os new)
      (too_many (finmap.len (with_node_at os path h old))) (with_node_at os path h old)
  pub branch : OnOk result (IsBranch os new)
  pub still : result ≢ Err fault.Memory → IsBranch os old → IsBranch os new
  pub reads : new.reads ≡ old.reads
  pub stays : OnOk result ((q : Path) → strip_prefix path q ≡ None
      → closed_from new.root q ≤ closed_from old.root q)
