-- The files of a tree, among good objects whose trees are within the limits, are those of a branch.
use Rattle.std.proofs.Common.{◌≡◌, ℕ, ◌≤◌, true, false, nat_le, List, [], ◌∷◌, length, Option, None, Some, Ok, refl, sym, ap, ◌∙◌, subst, arith, le-leb}
use Rattle.std.specs.Prelude.{unwrap_or}
use Rattle.std.specs.FinMap as finmap
use Rattle.std.specs.FinMap.{len-entries}
use Rattle.std.specs.List.{AllByRecursion, list_all, list_any}
use Rattle.std.proofs.lemmas.List.Elements.{All-nil}
use Rattle.git_model.specs.declared.kind.Kind.TheVariants as kind
use Rattle.git_model.specs.CommitReading.{commit_read}
use Rattle.git_model.specs.Content.{Content, no_content}
use Rattle.git_model.specs.GoodRepository.{AreObjects}
use Rattle.git_model.specs.References.{kind_named}
use Rattle.git_model.specs.Repository.{Object}
use Rattle.git_paths.specs.Paths.{IsComponent, joined, is_within_limits}
use Rattle.git_paths.proofs.Decided.{test-from_IsWithinLimits}
use Rattle.tenant_tables.specs.Sums.{IsWithin, TreesFit}
use Rattle.tenant_tables.proofs.SumsIn.{fitting-known}
use Rattle.file_maps.specs.declared.check.TheConstants.{FILES_LIMIT}
use Rattle.file_maps.specs.declared.fault.Fault.{Fault as FilesFault}
use Rattle.file_maps.specs.Edits.{is_root, moved, put_fault, put_tree_at}
use Rattle.file_maps.specs.FileMap.{AreFiles, FileMap, Listed, listed}
use Rattle.file_maps.specs.Grafts.{or_else}
use Rattle.file_maps.specs.PlainTrees.{ListsPlain}
use Rattle.file_maps.specs.Storable.{files_summary, longest_of}
use Rattle.file_maps.specs.StoredFiles.{commit_map, stored_files, stored_map, tree_of_commit}
use Rattle.file_maps.specs.StoredTree.{ListsTree}
use Rattle.file_maps.specs.Trees.{tree_content}
use Rattle.file_maps.proofs.Fits.{depth_each}
use Rattle.file_maps.proofs.GoodObjects.{files-of}
use Rattle.file_maps.proofs.Grafting.{no_fault, no_roots}
use Rattle.file_maps.proofs.KnownTrees.{has-files}
use Rattle.file_maps.proofs.ListedOrder.{listed-with, tree-in-order}
use Rattle.file_maps.proofs.Listing.{tree-sound}
use Rattle.file_maps.proofs.Puts.{AreFiles-nil}
use Rattle.file_maps.proofs.StoredPut.{stored-put}
use Rattle.file_maps.proofs.SumsAfter.{within-from}
use Rattle.open_commits.specs.OpenCommit.{OpenCommit}
use Rattle.open_commits.specs.Parents.{changed_to, started_from}
use Rattle.open_commits.proofs.Starting.{root-put}
use Rattle.open_commits.proofs.StoredCommits.{stored_commit}

-- ---- limits

longest-each : (files : Listed) (n : ℕ) → longest_of files ≤ n
    → AllByRecursion (λ f. length (joined f.0) ≤ n) files
longest-each [] n h = tt
longest-each (f ∷ files) n h = (omega arith, longest-each files n (omega arith))

all-short : (files : Listed) → AllByRecursion (λ f. length f.0 ≤ 256) files
    → AllByRecursion (λ f. length (joined f.0) ≤ 16383) files
    → list_all (λ f. is_within_limits f.0) files ≡ true
all-short [] h k = refl
all-short (f ∷ files) h k =
    rw (test-from_IsWithinLimits f.0 (record { bytes = k.0; components = h.0 }), all-short files h.1 k.1) refl

unmoved : (files : Listed) → moved [] files ≡ files
unmoved [] = refl
unmoved (f ∷ files) = ap (λ (l : Listed). f ∷ l) (unmoved files)

unrefused : (files : Listed) (after : FileMap) → list_any (λ f. is_root f.0) files ≡ false
    → list_all (λ f. is_within_limits f.0) files ≡ true
    → nat_le (finmap.len after) FILES_LIMIT ≡ true → put_fault files after ≡ None
unfolding put_fault
unrefused files after below short few = rw (below, short, few) refl

-- ---- the files of a tree

module _ (digest : List ℕ → List ℕ) (os : List Object) (good : AreObjects digest os) (tree : List ℕ)
    (is : kind_named tree os ≡ Some kind.Tree) where
  -- the map lists them as the tree does
  pub files-listed : listed (stored_map os tree) ≡ stored_files os tree
  files-listed =
      listed-with (stored_files os tree)
      (tree-in-order os tree (stored_files os tree) (files-of digest os good tree is).listed)

module _ (digest : List ℕ → List ℕ) (os : List Object) (good : AreObjects digest os)
    (fit : TreesFit [] os) (tree : List ℕ) (is : kind_named tree os ≡ Some kind.Tree) where
  lists : ListsTree os tree (stored_files os tree)
  lists = (files-of digest os good tree is).listed

  within : IsWithin (files_summary (stored_files os tree))
  within = within-from digest os good fit tree (stored_files os tree) lists

  few : nat_le (finmap.len (stored_map os tree)) FILES_LIMIT ≡ true
  few =
      let n : finmap.len (stored_map os tree) ≡ length (stored_files os tree) =
      len-entries (stored_map os tree)
      ∙ ap (λ (l : Listed). length l) (files-listed digest os good tree is) in
      let files = within.files in
      le-leb (finmap.len (stored_map os tree)) FILES_LIMIT (omega (arith, n, files))

  -- no limit refuses them
  pub files-fit : put_fault (stored_files os tree) (stored_map os tree) ≡ None
  files-fit =
      unrefused (stored_files os tree) (stored_map os tree)
      (subst (λ (l : Listed). list_any (λ f. is_root f.0) l ≡ false) (unmoved (stored_files os tree))
      (no_roots [] (stored_files os tree) (tree-sound os tree (stored_files os tree) lists)))
      (all-short (stored_files os tree)
      (depth_each (stored_files os tree) 256 within.depth)
      (longest-each (stored_files os tree) 16383 within.longest))
      few

  -- they are those of a branch
  pub files-good : AreFiles (listed (stored_map os tree))
  files-good =
      subst (λ (m : FileMap). AreFiles (listed m)) same
      (stored-put digest os good finmap.empty (AreFiles-nil (listed finmap.empty) (listed-with [] tt)) tree is []
      (All-nil IsComponent)
      (ap (λ (l : Listed). put_fault l (put_tree_at finmap.empty [] (stored_files os tree))) (unmoved (stored_files os tree))
      ∙ ap (put_fault (stored_files os tree)) same ∙ files-fit))
    where
      same : put_tree_at finmap.empty [] (stored_files os tree) ≡ stored_map os tree
      same = root-put finmap.empty (stored_files os tree)

-- ---- a commit starts from another

module _ (digest : List ℕ → List ℕ) (os : List Object) (good : AreObjects digest os)
    (fit : TreesFit [] os) (id : List ℕ) (is : kind_named id os ≡ Some kind.Commit) where
  tree-there : kind_named (tree_of_commit os id) os ≡ Some kind.Tree
  tree-there =
      let s = stored_commit digest os good id is in
      subst (λ (o : Option Content). kind_named (commit_read (unwrap_or o no_content).bytes).tree os ≡ Some kind.Tree)
      (sym s.named) s.tree

  abbrev own : List ℕ
  own = tree_of_commit os id

  plain : ListsPlain os own (stored_files os own)
  plain =
      let t = (files-of digest os good own tree-there).listed in
      has-files os own
      (fitting-known os fit (λ i lt. good.distinct i lt) own (tree_content t.direct) t.tree.content refl)

  -- nothing refuses the files of a commit that is there
  pub started : (commit : OpenCommit)
      → started_from os id commit ≡ Ok (record commit { parents = id ∷ []; files = commit_map os id })
  started commit =
      ap (changed_to (record commit { parents = id ∷ [] }) (commit_map os id))
      (ap (λ (f : Option FilesFault). or_else f (put_fault (stored_files os own) (commit_map os id)))
      (no_fault os own (stored_files os own) plain)
      ∙ files-fit digest os good fit own tree-there)
