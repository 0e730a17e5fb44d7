-- The files of a stored tree of good objects name objects that are there.
use Rattle.std.proofs.Common.{◌≡◌, ◌≢◌, ℕ, List, [], ◌∷◌, All, Some, refl, sym, ap, ◌∙◌, subst}
use Rattle.std.specs.List.{AllByRecursion}
use Rattle.std.proofs.lemmas.List.Elements.{All-head, All-tail}
use Rattle.git_model.specs.declared.file_mode.FileMode.{FileMode}
use Rattle.git_model.specs.declared.file_mode.FileMode.TheVariants as mode
use Rattle.git_model.specs.declared.kind.Kind.TheVariants as kind
use Rattle.git_model.specs.Modes.{kind_of_mode}
use Rattle.git_model.specs.Tree.{TreeEntry}
use Rattle.git_model.specs.Repository.{Object}
use Rattle.git_model.specs.References.{tree_references, kind_named, place_of}
use Rattle.git_model.specs.GoodRepository.{StandsBefore, AreObjects}
use Rattle.git_model.proofs.TreeReadings.{tree_back}
use Rattle.file_maps.specs.declared.entry.Entry.{Entry}
use Rattle.file_maps.specs.FileMap.{Path, Listed}
use Rattle.file_maps.specs.HeldFiles.{IsFileHeld}
use Rattle.file_maps.specs.StoredFiles.{stored_files}
use Rattle.file_maps.specs.StoredTree.{HasTree, Lists, nothing, first_file, first_directory}
use Rattle.file_maps.specs.Trees.{tree_content}
use Rattle.file_maps.proofs.Apart.{all-map}
use Rattle.file_maps.proofs.Listing.{all-append}
use Rattle.file_maps.proofs.GoodObjects.{refers-before, files-of}

-- what an entry of a stored tree refers to
abbrev Refers : List Object → TreeEntry → Type 0
Refers os e = e.mode ≢ mode.Gitlink → kind_named e.id os ≡ Some (kind_of_mode e.mode)

kinds-of : (os : List Object) (n : ℕ) (es : List TreeEntry)
    → All (StandsBefore os n) (tree_references es) → AllByRecursion (Refers os) es
kinds-of os n [] h = tt
kinds-of os n (e ∷ es) h = by (kinds-of os n es) e.mode refl
  where
    here : (m : FileMode) → e.mode ≡ m → kind_named e.id os ≡ Some (kind_of_mode m) → Refers os e
    here m is k = λ ne. k ∙ ap (λ (x : FileMode). Some (kind_of_mode x)) (sym is)

    by : (All (StandsBefore os n) (tree_references es) → AllByRecursion (Refers os) es)
        → (m : FileMode) → e.mode ≡ m → AllByRecursion (Refers os) (e ∷ es)
    by rest mode.Directory is =
        let all = rw is at h in (here mode.Directory is (All-head (StandsBefore os n) _ _ all).kind, rest (All-tail (StandsBefore os n) _ _ all))
    by rest mode.Regular is =
        let all = rw is at h in (here mode.Regular is (All-head (StandsBefore os n) _ _ all).kind, rest (All-tail (StandsBefore os n) _ _ all))
    by rest mode.Executable is =
        let all = rw is at h in (here mode.Executable is (All-head (StandsBefore os n) _ _ all).kind, rest (All-tail (StandsBefore os n) _ _ all))
    by rest mode.Symlink is =
        let all = rw is at h in (here mode.Symlink is (All-head (StandsBefore os n) _ _ all).kind, rest (All-tail (StandsBefore os n) _ _ all))
    by rest mode.Gitlink is = let all = rw is at h in ((λ ne. absurd (ne is)), rest all)

module _ (digest : List ℕ → List ℕ) (os : List Object) (good : AreObjects digest os) where
  tree-refers : (id : List ℕ) (es : List TreeEntry) → HasTree os id es
      → AllByRecursion (Refers os) es
  tree-refers id es h =
      kinds-of os (place_of id os) es
      (subst (λ (xs : List TreeEntry). All (StandsBefore os (place_of id os)) (tree_references xs))
      (tree_back es h.entries) (refers-before digest os good id (tree_content es) h.content))

  lists-held : {es : List TreeEntry} {fs : Listed} → Lists os es fs → AllByRecursion (Refers os) es
      → AllByRecursion (IsFileHeld os) fs
  lists-held nothing h = tt
  lists-held (first_file e es files ne l) h = (h.0, lists-held l h.1)
  lists-held (first_directory e es inside below files is has sub l) h =
      all-append (IsFileHeld os) _ files
      (all-map (λ (g : Path × Entry). (e.name ∷ g.0, g.1)) (IsFileHeld os) below
      (lists-held sub (tree-refers e.id inside has)))
      (lists-held l h.1)

  pub stored-held : (id : List ℕ) → kind_named id os ≡ Some kind.Tree
      → AllByRecursion (IsFileHeld os) (stored_files os id)
  stored-held id k =
      let t = (files-of digest os good id k).listed in
      lists-held t.lists (tree-refers id t.direct t.tree)
