-- Good open commits: git-fsck(1), the validity and the connectivity of the commits that they make.
use Rattle.std.specs.Prelude.{◌≡◌, ℕ, ◌≤◌, List, ◌++◌, length, All, Some, IfSome}
use Rattle.std.specs.List.{AllByRecursion}
use Rattle.git_model.specs.declared.kind.Kind.TheVariants as kind
use Rattle.git_model.specs.Commit.{IsEncoding}
use Rattle.git_model.specs.GoodRepository.{AreObjects, parents_limit}
use Rattle.git_model.specs.Ident.{IsWrittenIdent}
use Rattle.git_model.specs.References.{kind_named}
use Rattle.git_model.specs.Repository.{Object}
use Rattle.file_maps.specs.FileMap.{listed}
use Rattle.stream_grammar.specs.declared.marked_object.MarkedObject.{MarkedObject}
use Rattle.file_maps.specs.HeldFiles.{IsFileHeld}
use Rattle.open_commits.specs.Changes.{Marks}
use Rattle.open_commits.specs.OpenCommit.{Header, OpenCommit}

-- What a header says can be written.
pub record IsGoodHeader (header : Header) : Type 0 where
  pub author : IfSome header.author IsWrittenIdent
  pub committer : IsWrittenIdent header.committer
  pub encoding : IfSome header.encoding IsEncoding

-- An open commit is good among objects if its header can be written, its parents are commits among
-- the objects and not too many, and the objects of its files are there. HasFiles (in OpenFiles)
-- says that its files are those of a branch.
pub record IsGoodCommit (os : List Object) (commit : OpenCommit) : Type 0 where
  pub header : IsGoodHeader commit.header
  pub parents : All (λ id. kind_named id os ≡ Some kind.Commit) commit.parents
  pub few_parents : length commit.parents ≤ parents_limit
  pub held : AllByRecursion (IsFileHeld os) (listed commit.files)

-- Marks are good among objects if each stands for one of the objects, with its kind.
abbrev pub IsMarked : List Object → MarkedObject → Type 0
IsMarked os object = kind_named object.name os ≡ Some object.kind

-- Each mark stands for an object that is there, of the kind that it says.
abbrev pub AreMarks : List Object → Marks → Type 0
AreMarks os marks = All (λ mark. IsMarked os mark.1) marks

-- Objects with more added after them, which are good.
pub record GrowGood (digest : List ℕ → List ℕ) (os new : List Object) : Type 0 where
  pub good : AreObjects digest new
  pub more : List Object
  pub are : new ≡ os ++ more

-- The same, and the commit of this name is among them.
pub record HoldsCommit (digest : List ℕ → List ℕ) (os new : List Object) (id : List ℕ)
    : Type 0 where
  pub grows : GrowGood digest os new
  pub commit : kind_named id new ≡ Some kind.Commit
