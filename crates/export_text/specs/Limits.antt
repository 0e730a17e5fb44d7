-- What the limits of a stream ask of a repository: git-fast-import(1), "Input Format".
use Rattle.std.specs.Prelude.{◌≡◌, ℕ, ◌≤◌, List, ◌++◌, length, All, Some, IfSome, codes}
use Rattle.git_model.specs.declared.kind.Kind.{Kind}
use Rattle.git_model.specs.declared.kind.Kind.TheVariants as kind
use Rattle.git_model.specs.Commit.{Commit}
use Rattle.git_model.specs.CommitReading.{commit_read}
use Rattle.git_model.specs.Tag.{Tag}
use Rattle.git_model.specs.TagReading.{tag_read}
use Rattle.git_model.specs.RefStore.{target_of}
use Rattle.git_model.specs.Repository.{Object, Repository}
use Rattle.git_model.specs.GoodRepository.{IsShortRefName}
use Rattle.git_paths.specs.Paths.{IsWithinLimits}
use Rattle.file_maps.specs.declared.entry.Entry.{Entry}
use Rattle.file_maps.specs.FileMap.{Path, listed}
use Rattle.file_maps.specs.StoredFiles.{stored_map}
use Rattle.stream_lex.specs.Headers.{largest_data, longest_line}

-- A word and what it says are no longer than a line.
abbrev pub FitsLine : List ℕ → List ℕ → Type 0
FitsLine word text = length (word ++ text) ≤ longest_line

-- The path of a file is within the limits of paths.
abbrev pub FitsPath : Path × Entry → Type 0
FitsPath f = IsWithinLimits f.0

pub record FitsCommit (os : List Object) (c : Commit) : Type 0 where
  pub author : FitsLine (codes "author ") c.author
  pub committer : FitsLine (codes "committer ") c.committer
  pub encoding : IfSome c.encoding (FitsLine (codes "encoding "))
  pub message : length c.message ≤ largest_data
  pub paths : All FitsPath (listed (stored_map os c.tree))

pub record FitsTag (t : Tag) : Type 0 where
  pub tagger : IfSome t.tagger (FitsLine (codes "tagger "))
  pub message : length t.message ≤ largest_data

-- A tree is written by the commits that have it.
abbrev pub Fits : List Object → Kind → List ℕ → Type 0
Fits os kind.Blob bytes = length bytes ≤ largest_data
Fits os kind.Tree bytes = Unit {0}
Fits os kind.Commit bytes = FitsCommit os (commit_read bytes)
Fits os kind.Tag bytes = FitsTag (tag_read bytes)

-- HEAD names a ref, each ref has a good name, and each object fits into lines and data.
pub record CanExport (repository : Repository) : Type 0 where
  pub head : IsShortRefName repository.refs.head
  pub names : (ref id : List ℕ) → target_of repository.refs ref ≡ Some id → IsShortRefName ref
  pub objects : All (λ o. Fits repository.objects o.content.kind o.content.bytes)
      repository.objects
