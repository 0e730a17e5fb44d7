-- A commit while it is told: git-fast-import(1), "commit".
use Rattle.std.specs.Prelude.{ℕ, List, Option, Some}
use Rattle.git_model.specs.Commit.{Commit}
use Rattle.git_model.specs.Repository.{Object}
use Rattle.file_maps.specs.StoredFiles.{stored_map}
use Rattle.open_commits.specs.OpenCommit.{Header, OpenCommit}
use Rattle.export_text.specs.ExportActs.{number_of}
use Rattle.export_text.specs.ExportItems.{scratch}
use Rattle.stream_commands.specs.Workspace.{Workspace, with_command}
use Rattle.stream_parts.specs.OpenCommand.{Changes}
use Rattle.export_laws.specs.Told.{Told, workspace_of}

-- What the lines before its message say: the commit is told on the scratch branch, with its mark,
-- and its author is always given.
abbrev pub header_told : ℕ → Commit → Header
header_told mark c = record {
  ref = scratch;
  mark = Some mark;
  author = Some c.author;
  committer = c.committer;
  encoding = c.encoding;
}

-- The open commit after its last file: its parents, and the files of its tree.
abbrev pub commit_told : List Object → List ℕ → Commit → OpenCommit
commit_told os id c = record {
  header = header_told (number_of os id) c;
  message = c.message;
  parents = c.parents;
  files = stored_map os c.tree;
}

-- The workspace with this commit open.
abbrev pub workspace_with : Option (List ℕ) → Told → OpenCommit → Workspace
workspace_with head told commit = with_command (workspace_of head told) (Changes commit)
