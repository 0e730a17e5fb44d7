-- Good repositories: git-fsck(1), with the files that a tree lists.
use Rattle.std.specs.Prelude.{◌≡◌, ℕ, List, ◌++◌, Some}
use Rattle.git_model.specs.declared.kind.Kind.TheVariants as kind
use Rattle.git_model.specs.Repository.{Object, Repository}
use Rattle.git_model.specs.References.{kind_named}
use Rattle.git_model.specs.GoodRepository.{AreObjects, AreRefs}
use Rattle.file_maps.specs.FileMap.{Listed, AreFiles}
use Rattle.file_maps.specs.StoredTree.{ListsTree}

-- A tree is that of a file map: it lists the files of one, within the limits of a branch.
pub record IsTreeOfFiles (os : List Object) (tree : List ℕ) : Type 0 where
  pub files : Listed
  pub lists : ListsTree os tree files
  pub good : AreFiles files

-- A repository is good where its objects and its refs are, and where each tree is that of a file
-- map.
pub record IsRepository (digest : List ℕ → List ℕ) (repository : Repository) : Type 0 where
  pub objects : AreObjects digest repository.objects
  pub refs : AreRefs repository.objects repository.refs
  pub trees : (tree : List ℕ) → kind_named tree repository.objects ≡ Some kind.Tree
      → IsTreeOfFiles repository.objects tree

-- Objects were added after others, all of them together are good, and the tree of this name is
-- among them.
pub record StayGood (digest : List ℕ → List ℕ) (os new : List Object) (id : List ℕ) : Type 0 where
  pub good : AreObjects digest new
  pub more : List Object
  pub are : new ≡ os ++ more
  pub tree : kind_named id new ≡ Some kind.Tree
