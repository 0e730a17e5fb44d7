-- A repository is good by the sums of its trees exactly where it is by their files.
use Rattle.std.proofs.Common.{◌≡◌, ℕ, List, [], Option, Some, option_map, ap, subst}
use Rattle.git_model.specs.declared.kind.Kind.TheVariants as kind
use Rattle.git_model.specs.Content.{Content}
use Rattle.git_model.specs.GoodRepository.{AreObjects}
use Rattle.git_model.specs.References.{kind_named}
use Rattle.git_model.specs.Repository.{Object, Repository}
use Rattle.tenant_tables.specs.Sums.{IsWithin, TreesFit}
use Rattle.file_maps.specs.FileMap.{AreFiles, Listed}
use Rattle.file_maps.specs.GoodTrees.{IsRepository, IsTreeOfFiles}
use Rattle.file_maps.specs.Storable.{files_summary}
use Rattle.file_maps.specs.StoredFiles.{stored_files}
use Rattle.file_maps.specs.StoredTree.{ListsTree}
use Rattle.file_maps.proofs.GoodObjects.{files-of}
use Rattle.file_maps.proofs.Listing.{tree-only}
use Rattle.file_maps.proofs.Stored.{depth-bound, longest-bound}
use Rattle.file_maps.proofs.SumsAfter.{fit-from}
use Rattle.import_session.specs.Sound.{IsSoundRepository}
use Rattle.export_laws.proofs.OpenTrees.{files-good, files-listed}

-- the files of a branch are within the limits of a tree
files-within : (files : Listed) → AreFiles files → IsWithin (files_summary files)
files-within files are = record {
  files = are.few;
  depth = depth-bound files are.each;
  longest = longest-bound files are.each;
}

module _ (digest : List ℕ → List ℕ) (os : List Object) (good : AreObjects digest os) where
  tree-kind : (id : List ℕ) (files : Listed) → ListsTree os id files
      → kind_named id os ≡ Some kind.Tree
  tree-kind id files t = ap (λ (o : Option Content). option_map (λ (c : Content). c.kind) o) t.tree.content

  trees-of : TreesFit [] os → (id : List ℕ) → kind_named id os ≡ Some kind.Tree
      → IsTreeOfFiles os id
  trees-of fit id is = record {
    files = stored_files os id;
    lists = (files-of digest os good id is).listed;
    good = subst AreFiles (files-listed digest os good id is) (files-good digest os good fit id is);
  }

  fit-of : ((id : List ℕ) → kind_named id os ≡ Some kind.Tree → IsTreeOfFiles os id)
      → TreesFit [] os
  fit-of all =
      fit-from digest os good
      (λ id files t. let one = all id (tree-kind id files t) in
      subst (λ (l : Listed). IsWithin (files_summary l)) (tree-only os id one.files files one.lists t)
      (files-within one.files one.good))

pub sound-good : (digest : List ℕ → List ℕ) (repository : Repository)
    → IsSoundRepository digest repository → IsRepository digest repository
sound-good digest repository sound = record {
  objects = sound.objects;
  refs = sound.refs;
  trees = trees-of digest repository.objects sound.objects sound.trees;
}

pub good-sound : (digest : List ℕ → List ℕ) (repository : Repository)
    → IsRepository digest repository → IsSoundRepository digest repository
good-sound digest repository good = record {
  objects = good.objects;
  trees = fit-of digest repository.objects good.objects good.trees;
  refs = good.refs;
}
