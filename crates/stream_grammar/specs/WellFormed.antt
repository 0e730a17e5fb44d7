-- Well-formed acts: what the parser has checked about the words of an act, so that the object made
-- of them can be written.
use Rattle.std.specs.Prelude.{◌≢◌, ℕ, ◌≤◌, List, length, codes}
use Rattle.git_model.specs.declared.file_mode.FileMode.{FileMode}
use Rattle.git_model.specs.declared.file_mode.FileMode.TheVariants as mode
use Rattle.git_model.specs.Bytes.{BeginsWith}
use Rattle.git_model.specs.Commit.{IsEncoding}
use Rattle.git_model.specs.GoodRepository.{IsShortRefName, ref_name_limit}
use Rattle.git_model.specs.Ident.{IsWrittenIdent}
use Rattle.git_model.specs.ObjectName.{IsObjectName}
use Rattle.git_names.specs.StoredName.{NamesRef}
use Rattle.git_paths.specs.Paths.{IsPath, IsWithinLimits}
use Rattle.stream_grammar.specs.declared.act.ControlCommand.{ControlCommand}
use Rattle.stream_grammar.specs.declared.act.ControlCommand.TheVariants as control
use Rattle.stream_grammar.specs.declared.data_ref.DataRef.{DataRef}
use Rattle.stream_grammar.specs.declared.data_ref.DataRef.TheVariants as data_ref
use Rattle.stream_grammar.specs.Changes.{Path}
use Rattle.stream_grammar.specs.Acts.{ObjectCommand, BeginTag, Tagger}
use Rattle.stream_grammar.specs.Acts.{CommitCommand, Begin, Author, Committer, Encoding}
use Rattle.stream_grammar.specs.Acts.{FileChange, Modify, ModifyInline, Delete, Copy, Rename}
use Rattle.stream_grammar.specs.Acts.{RefCommand, Reset}
use Rattle.stream_grammar.specs.Acts.{ReplyCommand, CatBlob, Ls, LsInCommit}
use Rattle.stream_grammar.specs.Acts.{Act, Wait, Object, Commit, Change, Ref, Reply, Control}

-- A text is a ref name or `HEAD`, and is not too long.
pub record NamesShortRef (text : List ℕ) : Type 0 where
  pub name : NamesRef text
  pub short : length text ≤ ref_name_limit

-- The ref of a tag.
pub record IsTagRef (ref : List ℕ) : Type 0 where
  pub name : IsShortRefName ref
  pub tag : BeginsWith ref (codes "refs/tags/")

-- A path is well formed and within the limits.
pub record IsTreePath (path : Path) : Type 0 where
  pub components : IsPath path
  pub limits : IsWithinLimits path

-- A dataref is a mark or an object name.
abbrev pub IsReferred : DataRef → Type 0
IsReferred (data_ref.Mark mark) = Unit {0}
IsReferred (data_ref.Name id) = IsObjectName id

-- The mode of inline contents is neither that of a gitlink nor that of a directory.
pub record HoldsContents (file_mode : FileMode) : Type 0 where
  pub no_gitlink : file_mode ≢ mode.Gitlink
  pub no_directory : file_mode ≢ mode.Directory

-- The words of the commands of each group are well formed.
abbrev pub IsWellFormedObject : ObjectCommand → Type 0
IsWellFormedObject (BeginTag ref) = IsTagRef ref
IsWellFormedObject (Tagger ident) = IsWrittenIdent ident
IsWellFormedObject _ = Unit {0}

-- A command of a commit is well formed.
abbrev pub IsWellFormedCommit : CommitCommand → Type 0
IsWellFormedCommit (Begin ref) = NamesShortRef ref
IsWellFormedCommit (Author ident) = IsWrittenIdent ident
IsWellFormedCommit (Committer ident) = IsWrittenIdent ident
IsWellFormedCommit (Encoding encoding) = IsEncoding encoding
IsWellFormedCommit _ = Unit {0}

-- A change to the files of a commit is well formed.
abbrev pub IsWellFormedChange : FileChange → Type 0
IsWellFormedChange (Modify file_mode object path) = IsReferred object × IsTreePath path
IsWellFormedChange (ModifyInline file_mode path) = HoldsContents file_mode × IsTreePath path
IsWellFormedChange (Delete path) = IsTreePath path
IsWellFormedChange (Copy source path) = IsTreePath source × IsTreePath path
IsWellFormedChange (Rename source path) = IsTreePath source × IsTreePath path
IsWellFormedChange _ = Unit {0}

-- A command that sets a branch or a mark is well formed.
abbrev pub IsWellFormedRef : RefCommand → Type 0
IsWellFormedRef (Reset ref) = NamesShortRef ref
IsWellFormedRef _ = Unit {0}

-- A command that prints is well formed.
abbrev pub IsWellFormedReply : ReplyCommand → Type 0
IsWellFormedReply (CatBlob object) = IsReferred object
IsWellFormedReply (Ls root path) = IsReferred root × IsTreePath path
IsWellFormedReply (LsInCommit path) = IsTreePath path
IsWellFormedReply _ = Unit {0}

-- A command that controls the stream is well formed.
abbrev pub IsWellFormedControl : ControlCommand → Type 0
IsWellFormedControl (control.Head ref) = IsShortRefName ref
IsWellFormedControl _ = Unit {0}

-- The words of an act are well formed.
abbrev pub IsWellFormed : Act → Type 0
IsWellFormed Wait = Unit {0}
IsWellFormed (Object command) = IsWellFormedObject command
IsWellFormed (Commit command) = IsWellFormedCommit command
IsWellFormed (Change command) = IsWellFormedChange command
IsWellFormed (Ref command) = IsWellFormedRef command
IsWellFormed (Reply command) = IsWellFormedReply command
IsWellFormed (Control command) = IsWellFormedControl command
