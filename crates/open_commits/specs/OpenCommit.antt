-- Open commits: git-fast-import(1), "commit", from the message on.
use Rattle.std.specs.Prelude.{ℕ, List, [], Option}
use Rattle.std.specs.FinMap as finmap
use Rattle.std.specs.Option.{option_map}
use Rattle.git_model.specs.Repository.{Object}
use Rattle.file_maps.specs.FileMap.{FileMap}
use Rattle.tree_build.specs.Branch.{Branch, IsBranch, files_in, root_name}
use Rattle.open_commits.specs.declared.open_commit.Header.{Header as LentHeader}
use Rattle.open_commits.specs.declared.open_commit.OpenCommit.{OpenCommit as LentCommit}

-- What the lines before the message say: the ref of the branch, the mark that the commit is to get,
-- who wrote it, who made it, and the encoding of its message.
pub record Header : Type 0 where
  pub ref : List ℕ
  pub mark : Option ℕ
  pub author : Option (List ℕ)
  pub committer : List ℕ
  pub encoding : Option (List ℕ)

-- An open commit: its header, its message, its parents so far, and its files so far.
pub record OpenCommit : Type 0 where
  pub header : Header
  pub message : List ℕ
  pub parents : List (List ℕ)
  pub files : FileMap

-- A commit begins without parents, either on files that another commit left or without files.
abbrev pub begun_on : Header → List ℕ → FileMap → OpenCommit
begun_on header message files =
    record { header = header; message = message; parents = []; files = files }

-- A commit that begins without files.
abbrev pub begun : Header → List ℕ → OpenCommit
begun header message = begun_on header message finmap.empty

-- ---- what is held of it

-- The same with its files as a branch, in which a directory that was not opened is the name of a
-- tree.
pub record HeldCommit : Type 0 where
  pub header : Header
  pub message : List ℕ
  pub parents : List (List ℕ)
  pub files : Branch

-- What a held commit means among the objects of a table.
abbrev pub open_commit_in : List Object → HeldCommit → OpenCommit
open_commit_in os held = record {
  header = held.header;
  message = held.message;
  parents = held.parents;
  files = files_in os held.files;
}

-- Its files are a branch among these objects.
abbrev pub Stands : List Object → HeldCommit → Type 0
Stands os held = IsBranch os held.files

-- ---- the same without where it lies

-- The header lines of a commit, with its borrowed texts as they are now.
abbrev pub header_shown : LentHeader → Header
header_shown header = record {
  ref = header.ref_name;
  mark = header.mark;
  author = header.author;
  committer = header.committer;
  encoding = option_map (λ text. text.items) header.encoding;
}

-- A commit after its message, with its header, its message, its parents and its files.
abbrev pub commit_held : LentCommit → HeldCommit
commit_held commit = record {
  header = header_shown commit.header;
  message = commit.message.items;
  parents = commit.parents.items;
  files = commit.files;
}

-- What a borrowed commit means among objects, and that its files are a branch among them.
abbrev pub shown_in : List Object → LentCommit → OpenCommit
shown_in os commit = open_commit_in os (commit_held commit)

-- Its files are a branch among these objects.
abbrev pub IsCommitHeld : List Object → LentCommit → Type 0
IsCommitHeld os commit = Stands os (commit_held commit)

-- The name of the stored tree that the files are, if that is known without reading a tree.
abbrev pub tree_known : LentCommit → Option (List ℕ)
tree_known commit = root_name (commit_held commit).files
