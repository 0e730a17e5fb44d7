-- The files of a stored tree, put into a file map, leave one.
use Rattle.std.proofs.Common.{◌≡◌, List, [], ◌++◌, ℕ, None, Some, refl}
use Rattle.std.specs.List.{AllByRecursion}
use Rattle.std.proofs.lemmas.List.Elements.{All-append, All-cons, All-nil}
use Rattle.git_model.specs.declared.kind.Kind.TheVariants as kind
use Rattle.git_model.specs.GoodRepository.{AreObjects}
use Rattle.git_model.specs.References.{kind_named}
use Rattle.git_model.specs.Repository.{Object}
use Rattle.git_paths.specs.Paths.{IsComponent, IsPath}
use Rattle.file_maps.specs.declared.entry.Entry.{Entry}
use Rattle.file_maps.specs.Edits.{moved, put_fault, put_tree_at}
use Rattle.file_maps.specs.FileMap.{AreFiles, FileMap, Listed, Path, listed}
use Rattle.file_maps.specs.Kept.{IsBelow}
use Rattle.file_maps.specs.StoredFiles.{stored_files}
use Rattle.file_maps.specs.StoredTree.{ListsTree}
use Rattle.file_maps.proofs.Apart.{all-both, all-map, all-weaker}
use Rattle.file_maps.proofs.EditedMaps.{files-edited}
use Rattle.file_maps.proofs.GoodObjects.{files-of}
use Rattle.file_maps.proofs.Listing.{IsSound, apart-moved, tree-apart, tree-each, tree-sound}

abbrev pub HasPath : Path × Entry → Type 0
HasPath f = IsPath f.0

pub tree-paths : (os : List Object) (id : List ℕ) (fs : Listed) → ListsTree os id fs
    → AllByRecursion HasPath fs
tree-paths =
    tree-each HasPath (λ e h ne. All-cons IsComponent e.name [] h.name (All-nil IsComponent))
    (λ e h g path. All-cons IsComponent e.name g.0 h.name path)

pub stored-put : (digest : List ℕ → List ℕ) (os : List Object) → AreObjects digest os
    → (m : FileMap) → AreFiles (listed m) → (tree : List ℕ) → kind_named tree os ≡ Some kind.Tree
    → (to : Path) → IsPath to
    → put_fault (moved to (stored_files os tree)) (put_tree_at m to (stored_files os tree)) ≡ None
    → AreFiles (listed (put_tree_at m to (stored_files os tree)))
stored-put digest os good m are tree k to path none =
    let files = stored_files os tree in
    let t = (files-of digest os good tree k).listed in
    files-edited None to m (moved to files) are
    (all-map (λ (f : Path × Entry). (to ++ f.0, f.1)) (IsBelow to) files
    (all-weaker (λ (f : Path × Entry). HasPath f × IsSound f)
    (λ (f : Path × Entry). IsBelow to (to ++ f.0, f.1))
    (λ f both. record {
      rest = f.0;
      below = refl;
      path = All-append IsComponent to f.0 path both.0;
      mode = both.1.mode;
      name = both.1.name;
    }) files
    (all-both HasPath IsSound files (tree-paths os tree files t) (tree-sound os tree files t))))
    (apart-moved to files (tree-apart os tree files t)) none
