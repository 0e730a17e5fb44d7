-- The files of a reached tree that stands before: their blobs are reached, and stand before too.
use Rattle.std.proofs.Common.{◌≡◌, ◌≢◌, ℕ, true, false, List, [], ◌∷◌, ◌++◌, Some, refl, sym, ap, ◌∙◌, subst, inl, inr}
use Rattle.std.specs.List.{AllByRecursion}
use Rattle.std.proofs.lemmas.Bool.{cases_Bool}
use Rattle.git_model.specs.declared.file_mode.FileMode.{FileMode}
use Rattle.git_model.specs.declared.file_mode.FileMode.TheVariants as mode
use Rattle.git_model.specs.declared.kind.Kind.TheVariants as kind
use Rattle.git_model.specs.GoodRepository.{AreObjects}
use Rattle.git_model.specs.Modes.{kind_of_mode}
use Rattle.git_model.specs.Reach.{is_referred_to}
use Rattle.git_model.specs.References.{Reference, is_reference, kind_named, tree_references}
use Rattle.git_model.specs.Repository.{Object, Repository}
use Rattle.git_model.specs.Tree.{TreeEntry}
use Rattle.git_model.proofs.Growing.{prefix_is}
use Rattle.git_model.proofs.TreeReadings.{tree_back}
use Rattle.file_maps.specs.declared.entry.Entry.{Entry}
use Rattle.file_maps.specs.FileMap.{Listed, Path}
use Rattle.file_maps.specs.HeldFiles.{IsFileHeld}
use Rattle.file_maps.specs.StoredFiles.{stored_files}
use Rattle.file_maps.specs.StoredTree.{HasTree, Lists, ListsTree, nothing, first_file, first_directory}
use Rattle.file_maps.specs.Trees.{tree_content}
use Rattle.file_maps.proofs.Apart.{all-both, all-map, all-weaker}
use Rattle.file_maps.proofs.GoodObjects.{files-of, listed-stored}
use Rattle.file_maps.proofs.GoodTrees.{has-longer, lists-longer}
use Rattle.file_maps.proofs.HeldTrees.{stored-held}
use Rattle.file_maps.proofs.Listing.{IsSound, all-append, tree-sound}
use Rattle.export_laws.proofs.Known.{reached-on}

-- A file that an export tells: its blob stands among some first objects, and a ref reaches it. A
-- gitlink's commit is one of another repository.
pub record IsTellable (repository : Repository) (first : List Object) (f : Path × Entry) : Type 0 where
  pub no_tree : f.1.mode ≢ mode.Directory
  pub held : f.1.mode ≢ mode.Gitlink → kind_named f.1.name first ≡ Some kind.Blob
  pub reached : f.1.mode ≢ mode.Gitlink → is_referred_to repository f.1.name ≡ true

no-reference : (m : FileMode) → is_reference m ≡ false → m ≡ mode.Gitlink
no-reference mode.Gitlink h = refl
no-reference mode.Regular h = cc
no-reference mode.Executable h = cc
no-reference mode.Symlink h = cc
no-reference mode.Directory h = cc

is-blob : (m : FileMode) → m ≢ mode.Directory → m ≢ mode.Gitlink → kind_of_mode m ≡ kind.Blob
is-blob mode.Directory no_tree no_link = absurd (no_tree refl)
is-blob mode.Gitlink no_tree no_link = absurd (no_link refl)
is-blob mode.Regular no_tree no_link = refl
is-blob mode.Executable no_tree no_link = refl
is-blob mode.Symlink no_tree no_link = refl

module _ (digest : List ℕ → List ℕ) (repository : Repository) (good : AreObjects digest repository.objects) where
  abbrev ReachesEntry : TreeEntry → Type 0
  ReachesEntry e = e.mode ≢ mode.Gitlink → is_referred_to repository e.id ≡ true

  abbrev ReachesFile : Path × Entry → Type 0
  ReachesFile f = f.1.mode ≢ mode.Gitlink → is_referred_to repository f.1.name ≡ true

  abbrev IsReached : Reference → Type 0
  IsReached r = is_referred_to repository r.id ≡ true

  entries-reached : (es : List TreeEntry) → AllByRecursion IsReached (tree_references es)
      → AllByRecursion ReachesEntry es
  entries-reached [] h = tt
  entries-reached (e ∷ es) h = elim (cases_Bool (is_reference e.mode)) [
    | inl yea ↦ let all = rw yea at h in ((λ other. all.0), entries-reached es all.1)
    | inr nay ↦ let all = rw nay at h in ((λ other. absurd (other (no-reference e.mode nay))), entries-reached es all)
  ]

  tree-reached : (id : List ℕ) (es : List TreeEntry) → HasTree repository.objects id es
      → is_referred_to repository id ≡ true → AllByRecursion ReachesEntry es
  tree-reached id es has reached =
      entries-reached es
      (subst (λ (xs : List TreeEntry). AllByRecursion IsReached (tree_references xs))
      (tree_back es has.entries) (reached-on digest repository good id (tree_content es) has.content reached))

  no_link : (m : FileMode) → m ≡ mode.Directory → m ≢ mode.Gitlink
  no_link m is link = let no = sym is ∙ link in cc

  lists-reached : {es : List TreeEntry} {fs : Listed} → Lists repository.objects es fs
      → AllByRecursion ReachesEntry es → AllByRecursion ReachesFile fs
  lists-reached nothing h = tt
  lists-reached (first_file e es files ne l) h = (h.0, lists-reached l h.1)
  lists-reached (first_directory e es inside below files is has sub l) h =
      all-append ReachesFile _ files
      (all-map (λ (g : Path × Entry). (e.name ∷ g.0, g.1)) ReachesFile below
      (lists-reached sub (tree-reached e.id inside has (h.0 (no_link e.mode is)))))
      (lists-reached l h.1)

  pub files-reached : (tree : List ℕ) → kind_named tree repository.objects ≡ Some kind.Tree
      → is_referred_to repository tree ≡ true
      → AllByRecursion ReachesFile (stored_files repository.objects tree)
  files-reached tree k reached =
      let t = (files-of digest repository.objects good tree k).listed in
      lists-reached t.lists (tree-reached tree t.direct t.tree reached)

  -- ---- among first objects

  module _ (first rest : List Object) (is : repository.objects ≡ first ++ rest) where
    first-good : AreObjects digest first
    first-good = prefix_is digest first rest (subst (AreObjects digest) is good)

    listed-longer : (tree : List ℕ) (fs : Listed) → ListsTree first tree fs
        → ListsTree (first ++ rest) tree fs
    listed-longer tree fs t = record {
      direct = t.direct;
      tree = has-longer first rest tree t.direct t.tree;
      lists = lists-longer first rest t.lists;
    }

    same-files : (tree : List ℕ) → kind_named tree first ≡ Some kind.Tree
        → stored_files repository.objects tree ≡ stored_files first tree
    same-files tree k =
        listed-stored digest repository.objects good tree (stored_files first tree)
        (subst (λ (l : List Object). ListsTree l tree (stored_files first tree)) (sym is)
        (listed-longer tree (stored_files first tree) (files-of digest first first-good tree k).listed))

    files-held : (tree : List ℕ) → kind_named tree first ≡ Some kind.Tree
        → AllByRecursion (IsFileHeld first) (stored_files repository.objects tree)
    files-held tree k =
        subst (AllByRecursion (IsFileHeld first)) (sym (same-files tree k))
        (stored-held digest first first-good tree k)

    pub files-tellable : (tree : List ℕ) → kind_named tree first ≡ Some kind.Tree
        → kind_named tree repository.objects ≡ Some kind.Tree
        → is_referred_to repository tree ≡ true
        → AllByRecursion (IsTellable repository first) (stored_files repository.objects tree)
    files-tellable tree k whole reached =
        let fs = stored_files repository.objects tree in
        all-weaker (λ (f : Path × Entry). IsSound f × (IsFileHeld first f × ReachesFile f))
        (IsTellable repository first)
        (λ f h. record {
          no_tree = h.0.mode;
          held = λ other. h.1.0 other ∙ ap Some (is-blob f.1.mode h.0.mode other);
          reached = h.1.1;
        })
        fs
        (all-both IsSound (λ (f : Path × Entry). IsFileHeld first f × ReachesFile f) fs
        (tree-sound repository.objects tree fs (files-of digest repository.objects good tree whole).listed)
        (all-both (IsFileHeld first) ReachesFile fs (files-held tree k) (files-reached tree whole reached)))
