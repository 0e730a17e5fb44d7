-- Copies of repositories, by their exports: git-fast-export(1), git-fast-import(1).
use Rattle.std.specs.Prelude.{◌≡◌, ℕ, ◌≤◌, true, List, length, All, IfSome, codes}
use Rattle.git_model.specs.declared.kind.Kind.{Kind}
use Rattle.git_model.specs.declared.kind.Kind.TheVariants as kind
use Rattle.git_model.specs.Commit.{Commit}
use Rattle.git_model.specs.CommitReading.{commit_read}
use Rattle.git_model.specs.Repository.{Repository}
use Rattle.git_model.specs.TagReading.{tag_read}
use Rattle.stream_lex.specs.Headers.{largest_data}
use Rattle.export_text.specs.Limits.{FitsLine, FitsTag}
use Rattle.export_text.specs.Reached.{is_exportable, reached_tags}
use Rattle.stream_parts.specs.Tags.{tag_limit}
use Rattle.export_laws.specs.Order.{copied_objects}
use Rattle.export_laws.specs.Told.{AreOf}
use Rattle.export_laws.specs.Whole.{HasReached}

-- The lines of a commit and its message fit into a stream.
pub record CommitFits (c : Commit) : Type 0 where
  pub author : FitsLine (codes "author ") c.author
  pub committer : FitsLine (codes "committer ") c.committer
  pub encoding : IfSome c.encoding (FitsLine (codes "encoding "))
  pub message : length c.message ≤ largest_data

-- An object fits into a stream. A tree is written by the commits that have it, and a sound
-- repository has no path or ref name that is too long.
abbrev pub FitsStream : Kind → List ℕ → Type 0
FitsStream kind.Blob bytes = length bytes ≤ largest_data
FitsStream kind.Tree bytes = Unit {0}
FitsStream kind.Commit bytes = CommitFits (commit_read bytes)
FitsStream kind.Tag bytes = FitsTag (tag_read bytes)

-- What the limits ask of a repository that is to be copied: each line and each data that an export
-- has for an object fits into a stream, whether a ref reaches the object or not; its refs are few
-- enough for an export, and they reach no more tags than may wait for one checkpoint.
pub record CanBeCopied (repository : Repository) : Type 0 where
  pub fits : All (λ o. FitsStream o.content.kind o.content.bytes) repository.objects
  pub few_refs : is_exportable repository ≡ true
  pub few_tags : length (reached_tags repository) ≤ tag_limit

-- A copy has the same refs and HEAD, each object that these reach, with the same name and content,
-- and no other object. Its objects come in the order of storing.
pub record IsCopyOf (repository left : Repository) : Type 0 where
  pub refs : left.refs ≡ repository.refs
  pub whole : HasReached repository left.objects
  pub only : AreOf repository left.objects
  pub order : left.objects ≡ copied_objects repository
