-- What a running stream keeps true of its workspace: git-fsck(1), the validity and the connectivity
-- of objects.
use Rattle.std.specs.Prelude.{◌≡◌, ℕ, List, [], ◌++◌, take, All, Some, IfSome, codes}
use Rattle.git_model.specs.declared.kind.Kind.TheVariants as kind
use Rattle.git_model.specs.Commit.{IsEncoding}
use Rattle.git_model.specs.Ident.{IsWrittenIdent}
use Rattle.git_model.specs.Repository.{Object, Repository}
use Rattle.git_model.specs.References.{kind_named}
use Rattle.git_model.specs.GoodRepository.{AreObjects, AreRefs, IsShortRefName, IsTagNamed}
use Rattle.git_paths.specs.Paths.{IsPath}
use Rattle.tenant_tables.specs.Sums.{TreesFit}
use Rattle.stream_grammar.specs.WellFormed.{IsTagRef}
use Rattle.open_commits.specs.GoodCommits.{AreMarks, IsGoodCommit}
use Rattle.open_commits.specs.OpenCommit.{OpenCommit}
use Rattle.open_commits.specs.OpenFiles.{HasFiles}
use Rattle.stream_parts.specs.declared.branches.Tip.{Tip}
use Rattle.stream_parts.specs.declared.branches.Tip.TheVariants.{Unborn, Deleted, At}
use Rattle.stream_parts.specs.declared.headers.CommitHeader.{CommitHeader}
use Rattle.stream_parts.specs.declared.headers.TagHeader.{TagHeader}
use Rattle.stream_parts.specs.OpenCommand.{OpenCommand, Nothing, Commit, Tag, Reset, Changes, Inline}
use Rattle.stream_commands.specs.Workspace.{Workspace}

-- A repository that a stream may open on, and that it leaves: its objects are good, all trees are
-- within the limits, and its refs are good.
pub record IsSoundRepository (digest : List ℕ → List ℕ) (repository : Repository) : Type 0 where
  pub objects : AreObjects digest repository.objects
  pub trees : TreesFit [] repository.objects
  pub refs : AreRefs repository.objects repository.refs

-- A branch is at no commit, or at one of the objects.
abbrev pub IsTip : List Object → Tip → Type 0
IsTip objects Unborn = Unit {0}
IsTip objects Deleted = Unit {0}
IsTip objects (At id) = kind_named id objects ≡ Some kind.Commit

-- The name of a branch is one that a checkpoint may set as a ref.
pub record IsStreamBranch (objects : List Object) (branch : List ℕ × Tip) : Type 0 where
  pub name : IsShortRefName branch.0
  pub tip : IsTip objects branch.1

-- A pending tag is one of the objects, and its ref is `refs/tags/` with the tag's own name.
pub record IsPending (objects : List Object) (tag : List ℕ × List ℕ) : Type 0 where
  pub name : IsShortRefName tag.0
  pub named : (own : List ℕ) × (tag.0 ≡ codes "refs/tags/" ++ own) × IsTagNamed objects tag.1 own

-- What the header lines of a commit have said can be written.
pub record IsCommitHeader (header : CommitHeader) : Type 0 where
  pub ref : IsShortRefName header.ref_name
  pub author : IfSome header.author IsWrittenIdent
  pub committer : IfSome header.committer IsWrittenIdent
  pub encoding : IfSome header.encoding IsEncoding

-- So can what those of a tag have said.
pub record IsTagHeader (header : TagHeader) : Type 0 where
  pub ref : IsTagRef header.ref_name
  pub tagger : IfSome header.tagger IsWrittenIdent

-- An open commit is good among the objects, the name of its branch may be set as a ref, and its
-- files are those of a branch.
pub record IsOpen (objects : List Object) (commit : OpenCommit) : Type 0 where
  pub ref : IsShortRefName commit.header.ref
  pub good : IsGoodCommit objects commit
  pub files : HasFiles commit

-- What a command has said can be written, its commit is good, and a file that waits for its data
-- has a path.
abbrev pub IsSoundCommand : List Object → OpenCommand OpenCommit → Type 0
IsSoundCommand objects Nothing = Unit {0}
IsSoundCommand objects (Commit header) = IsCommitHeader header
IsSoundCommand objects (Tag header) = IsTagHeader header
IsSoundCommand objects (Reset ref) = IsShortRefName ref
IsSoundCommand objects (Changes commit) = IsOpen objects commit
IsSoundCommand objects (Inline commit file) = IsOpen objects commit × IsPath file.path

-- A workspace is sound if all of these hold. Its objects are good, and all trees are within the
-- limits. The refs as last saved are good among the objects of that time. The ref that HEAD is to
-- name may be set. Each mark stands for one of its objects, with its kind. Branches are at commits of
-- its objects or at none, and pending tags are tags among its objects. The open command is sound.
pub record IsSound (digest : List ℕ → List ℕ) (workspace : Workspace) : Type 0 where
  pub objects : AreObjects digest workspace.objects
  pub trees : TreesFit [] workspace.objects
  pub refs : AreRefs (take workspace.committed workspace.objects) workspace.refs
  pub next_head : IfSome workspace.stream.head IsShortRefName
  pub marks : AreMarks workspace.objects workspace.stream.marks
  pub branches : All (IsStreamBranch workspace.objects) workspace.stream.branches
  pub tags : All (IsPending workspace.objects) workspace.stream.tags
  pub command : IsSoundCommand workspace.objects workspace.stream.command
