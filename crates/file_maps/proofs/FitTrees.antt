-- The trees of files within the limits are within them too, once they are stored.
use Rattle.std.proofs.Common.{◌≡◌, ◌≢◌, ℕ, zero, suc, ◌≤◌, ◌⊎◌, inl, inr, Bool, true, false, List, [], ◌∷◌, ◌++◌, map, fold, All, Option, None, Some, refl, sym, ap, ◌∙◌, subst, arith}
use Rattle.std.specs.Prelude.{is_some}
use Rattle.std.specs.List.{AllByRecursion, flat_map}
use Rattle.std.specs.Map.{lookup}
use Rattle.std.specs.Option.{option_map, unwrap_or}
use Rattle.std.specs.Str.{bytes_eq}
use Rattle.git_model.specs.declared.kind.Kind.{Kind}
use Rattle.git_model.specs.declared.kind.Kind.TheVariants as kind
use Rattle.git_model.specs.Content.{Content}
use Rattle.git_model.specs.GoodRepository.{AreObjects}
use Rattle.git_model.specs.ObjectName.{IsObjectName}
use Rattle.git_model.specs.References.{kind_named}
use Rattle.git_model.specs.Repository.{Object, object_named, with_object}
use Rattle.git_model.specs.Tree.{TreeEntry, CanWriteTree}
use Rattle.git_names.specs.Naming.{AnswersNames}
use Rattle.git_paths.specs.Paths.{IsPath}
use Rattle.git_paths.proofs.Cases.{by_cases}
use Rattle.tenant_tables.specs.declared.summary.Summary.{Summary}
use Rattle.tenant_tables.specs.Adding.{store_fault}
use Rattle.tenant_tables.specs.Sums.{Sums, sum_of_entry, sum_of_tree, IsWithin, Fits, TreesFit}
use Rattle.tenant_tables.specs.Trees as table
use Rattle.tenant_tables.proofs.TreeTexts.{tree_contents-injective}
use Rattle.file_maps.specs.declared.entry.Entry.{Entry}
use Rattle.file_maps.specs.FileMap.{Path, Listed, FileMap, AreFiles, IsFile, listed}
use Rattle.file_maps.specs.Below.{group_trees}
use Rattle.file_maps.specs.Edits.{files_at}
use Rattle.file_maps.specs.GoodTrees.{StayGood}
use Rattle.file_maps.specs.HeldFiles.{IsFileHeld}
use Rattle.file_maps.specs.Storable.{AreStorable, files_summary}
use Rattle.file_maps.specs.StoredFiles.{stored_files}
use Rattle.file_maps.specs.StoredTree.{ListsTree}
use Rattle.file_maps.specs.Storing.{trees_fault, with_trees}
use Rattle.file_maps.specs.Trees.{Groups, depth_of, entries_within, file_of, grouped, nested_trees, tree_content, tree_id, tree_name, trees_within}
use Rattle.file_maps.proofs.Apart.{all-weaker}
use Rattle.file_maps.proofs.Cutting.{storable-cut, depth-file, trees-none, storable-none}
use Rattle.file_maps.proofs.Fits.{IsGroup, groups-are}
use Rattle.file_maps.proofs.GoodObjects.{files-of}
use Rattle.file_maps.proofs.ListedLater.{named-added, named-later, tree-later}
use Rattle.file_maps.proofs.Listing.{all-append, tree-only}
use Rattle.file_maps.proofs.Nested.{direct_of}
use Rattle.file_maps.proofs.Rising.{groups-rise}
use Rattle.file_maps.proofs.Stored.{no_fault, storable-within}
use Rattle.file_maps.proofs.Sums.{none-both, fold-sums, groups-sum, group_sum, by_file}
use Rattle.file_maps.proofs.SumsAfter.{AreSums, AreWithin, sums_after, fits-append, found-in, good-sums, fit-from, within-from, lists-sum}
use Rattle.file_maps.proofs.TreesAdded.{name_of, nested_added}
use Rattle.file_maps.proofs.Written.{can_write_tree}

-- ---- what is there once trees are stored

all-split : {A : Type 0} (P : A → Type 0) (xs ys : List A) → AllByRecursion P (xs ++ ys)
    → AllByRecursion P xs × AllByRecursion P ys
all-split P [] ys h = (tt, h)
all-split P (x ∷ xs) ys h = let rest = all-split P xs ys h.1 in ((h.0, rest.0), rest.1)

named-by-trees : (digest : List ℕ → List ℕ) (trees : List (List TreeEntry)) (os : List Object)
    (id : List ℕ) (c : Content) → object_named id os ≡ Some c
    → object_named id (with_trees digest trees os) ≡ Some c
named-by-trees digest [] os id c h = h
named-by-trees digest (es ∷ trees) os id c h =
    named-by-trees digest trees (with_object (tree_name digest es) (tree_content es) os) id c
    (named-later id c (tree_name digest es) (tree_content es) os h)

abbrev IsThere : (List ℕ → List ℕ) → List Object → List TreeEntry → Type 0
IsThere digest os es = object_named (tree_name digest es) os ≡ Some (tree_content es)

trees-there : (digest : List ℕ → List ℕ) (trees : List (List TreeEntry)) (os : List Object)
    → trees_fault digest trees os ≡ None
    → AllByRecursion (IsThere digest (with_trees digest trees os)) trees
trees-there digest [] os none = tt
trees-there digest (es ∷ trees) os none =
    let next = with_object (tree_name digest es) (tree_content es) os in
    let parts = no_fault digest (store_fault (tree_name digest es) (tree_content es) os)
    (trees_fault digest trees next) none in (
      named-by-trees digest trees next (tree_name digest es) (tree_content es)
          (named-added (tree_name digest es) (tree_content es) os parts.0),
      trees-there digest trees next parts.1,
    )

-- what is there was there, or is one of the trees
abbrev IsOneOf : (List TreeEntry → Type 0) → Content → Type 0
IsOneOf P c = (es : List TreeEntry) × P es × (c ≡ tree_content es)

one-of : (id key : List ℕ) (d c : Content) (os : List Object)
    → object_named id (with_object key d os) ≡ Some c → (object_named id os ≡ Some c) ⊎ (c ≡ d)
one-of id key d c os is = by (is_some (object_named key os)) refl
  where
    by : (b : Bool) → is_some (object_named key os) ≡ b
        → (object_named id os ≡ Some c) ⊎ (c ≡ d)
    by true at = inl (rw at at is)
    by false at =
        elim (found-in os (record { id = key; content = d }) id c (rw at at is)) [
          | inl old ↦ inl old
          | inr new ↦ inr (sym new.1)
        ]

one-of-trees : (digest : List ℕ → List ℕ) (P : List TreeEntry → Type 0)
    (trees : List (List TreeEntry)) (os : List Object) → AllByRecursion P trees
    → (id : List ℕ) (c : Content) → object_named id (with_trees digest trees os) ≡ Some c
    → (object_named id os ≡ Some c) ⊎ IsOneOf P c
one-of-trees digest P [] os h id c is = inl is
one-of-trees digest P (es ∷ trees) os h id c is =
    elim (one-of-trees digest P trees (with_object (tree_name digest es) (tree_content es) os) h.1 id c is) [
      | inl first ↦ elim (one-of id (tree_name digest es) (tree_content es) c os first) [
        | inl old ↦ inl old
        | inr new ↦ inr (es, h.0, new)
      ]
      | inr one ↦ inr one
    ]

-- ---- the sums of trees that are there

record IsTold (so_far : Sums) (es : List TreeEntry) : Type 0 where
  writable : CanWriteTree es
  within : IsWithin (sum_of_tree so_far es)

module _ (digest : List ℕ → List ℕ) (names : AnswersNames digest) (os : List Object)
    (so_far : Sums) (are : AreSums os so_far) where
  -- the trees of files with so many components: each is within the limits, and the last one is that
  -- of all files
  record AreTold (deep : ℕ) (files : Listed) : Type 0 where
    writable : CanWriteTree (entries_within digest deep files)
    sum : sum_of_tree so_far (entries_within digest deep files) ≡ files_summary files
    trees : AllByRecursion (IsTold so_far) (trees_within digest deep files)

  record GroupsAreTold (deep : ℕ) (groups : Groups) : Type 0 where
    ids : AllByRecursion (λ e. IsObjectName e.id) (map (direct_of digest deep) groups)
    sums : map (sum_of_entry so_far) (map (direct_of digest deep) groups) ≡ map group_sum groups
    trees : AllByRecursion (IsTold so_far) (flat_map (group_trees digest deep) groups)

  last-there : (deep : ℕ) (files : Listed)
      → AllByRecursion (IsThere digest os) (trees_within digest deep files)
      → IsThere digest os (entries_within digest deep files)
  unfolding trees_within entries_within
  last-there zero files h = h.0
  last-there (suc n) files h =
      (all-split (IsThere digest os) (flat_map (group_trees digest n) (grouped files))
      (entries_within digest (suc n) files ∷ []) h).1.0

  groups-told : (n bound : ℕ) → bound ≤ suc n
      → ((files : Listed) → AreStorable files → depth_of files ≤ n
      → AllByRecursion (IsThere digest os) (trees_within digest n files) → AreTold n files)
      → (groups : Groups) → AllByRecursion (IsGroup bound) groups
      → AllByRecursion (IsThere digest os) (flat_map (group_trees digest n) groups)
      → GroupsAreTold n groups
  groups-told n bound le below [] h there = record { ids = tt; sums = refl; trees = tt }
  groups-told n bound le below ((c, []) ∷ groups) h there = absurd h.0
  groups-told n bound le below ((c, (([], e) ∷ files)) ∷ groups) h there =
      let rest = groups-told n bound le below groups h.1 there in
      let one : sum_of_entry so_far (direct_of digest n (c, (([], e) ∷ files))) ≡ table.one_file c =
      by_file e.mode _ (table.one_file c) h.0.mode in
      let more = rest.sums in
      record {
        ids = (h.0.name, rest.ids);
        sums = λ i. one i ∷ more i;
        trees = rest.trees;
      }
  groups-told n bound le below ((c, ((d ∷ q, e) ∷ files)) ∷ groups) h there =
      let inside : Listed = (d ∷ q, e) ∷ files in
      let es = entries_within digest n inside in
      let parts = all-split (IsThere digest os) (trees_within digest n inside)
      (flat_map (group_trees digest n) groups) there in
      let deep : suc (depth_of inside) ≤ bound = h.0.depth in
      let told = below inside h.0.storable (omega arith) parts.0 in
      let rest = groups-told n bound le below groups h.1 parts.1 in
      let known : lookup (bytes_eq (tree_name digest es)) so_far ≡ Some (files_summary inside) =
      are.noted (tree_name digest es) es
      (record { content = last-there n inside parts.0; entries = told.writable })
      ∙ ap (λ (s : Summary). Some s) told.sum in
      let one : sum_of_entry so_far (direct_of digest n (c, inside)) ≡ table.below c (files_summary inside) =
      ap (λ (o : Option Summary). table.below c (unwrap_or o table.no_files)) known in
      let more = rest.sums in
      record {
        ids = (name_of digest names (tree_content es), rest.ids);
        sums = λ i. one i ∷ more i;
        trees = all-append (IsTold so_far) (trees_within digest n inside)
            (flat_map (group_trees digest n) groups) told.trees rest.trees;
      }

  no-files-told : AreTold 0 []
  unfolding trees_within entries_within
  no-files-told =
      let writable : CanWriteTree [] = can_write_tree digest 0 0 [] tt tt tt in
      record {
        writable = writable;
        sum = refl;
        trees = (record { writable = writable; within = storable-within [] storable-none }, tt);
      }

  files-told : (deep : ℕ) (files : Listed) → AreStorable files → depth_of files ≤ deep
      → AllByRecursion (IsThere digest os) (trees_within digest deep files) → AreTold deep files
  unfolding trees_within entries_within
  files-told zero [] storable le there = no-files-told
  files-told zero (([], e) ∷ files) storable le there =
      absurd (storable.each.0.below_the_root refl)
  files-told zero ((c ∷ q, e) ∷ files) storable le there = absurd (omega arith)
  files-told (suc n) files storable le there =
      let groups = grouped files in
      let es = map (direct_of digest n) groups in
      let parts = all-split (IsThere digest os) (flat_map (group_trees digest n) groups) (es ∷ [])
      there in
      let h = groups-are files storable in
      let told = groups-told n (depth_of files) le (files-told n) groups h parts.0 in
      let rise = groups-rise files
      (all-weaker IsFile (λ f. IsPath f.0) (λ f k. k.path) files storable.each) storable.in_order
      storable.apart in
      let writable = can_write_tree digest n (depth_of files) groups h rise told.ids in
      let sum : sum_of_tree so_far es ≡ files_summary files =
      ap (fold table.both table.no_files) told.sums
      ∙ fold-sums table.no_files (map group_sum groups)
      ∙ none-both _
      ∙ groups-sum files (all-weaker IsFile (λ f. f.0 ≢ []) (λ f k. k.below_the_root) files storable.each)
      storable.apart in
      record {
        writable = writable;
        sum = sum;
        trees = all-append (IsTold so_far) (flat_map (group_trees digest n) groups) (es ∷ []) told.trees (
          record {
            writable = writable;
            within = subst IsWithin (sym sum) (storable-within files storable);
          },
          tt,
        );
      }

  -- the trees of what is below a path
  nested-told : (m : FileMap) → AreFiles (listed m) → (path : Path)
      → AllByRecursion (IsThere digest os) (nested_trees digest (files_at m path))
      → AllByRecursion (IsTold so_far) (nested_trees digest (files_at m path))
  nested-told m h path there =
      let files = files_at m path in by (file_of files) refl
    where
      by : (o : Option Entry) → file_of (files_at m path) ≡ o
          → AllByRecursion (IsTold so_far) (nested_trees digest (files_at m path))
      by None is =
          (files-told (depth_of (files_at m path)) (files_at m path)
          (storable-cut path (listed m) h is) (omega arith) there).trees
      by (Some e) is =
          subst (AllByRecursion (IsTold so_far))
          (trees-none digest (depth_of (files_at m path)) (files_at m path)
          (depth-file path (listed m) e h is)) no-files-told.trees

-- ---- trees that are stored

pub nested-fit : (digest : List ℕ → List ℕ) → AnswersNames digest → (os : List Object)
    → AreObjects digest os → TreesFit [] os
    → (m : FileMap) → AreFiles (listed m) → All (IsFileHeld os) (listed m)
    → (path : Path) → trees_fault digest (nested_trees digest (files_at m path)) os ≡ None
    → TreesFit [] (with_trees digest (nested_trees digest (files_at m path)) os)
nested-fit digest names os good fits m are held path none =
    fit-from digest new stay.good within
  where
    trees : List (List TreeEntry)
    trees = nested_trees digest (files_at m path)

    new : List Object
    new = with_trees digest trees os

    stay : StayGood digest os new (tree_id digest (files_at m path))
    stay = nested_added digest names os good m are held path none

    so_far : Sums
    so_far = sums_after [] new

    sums : AreSums new so_far
    sums = good-sums digest new stay.good

    told : AllByRecursion (IsTold so_far) trees
    told = nested-told digest names new so_far sums m are path (trees-there digest trees os none)

    -- one that was there has the files that it had
    within-old : (id : List ℕ) (files : Listed) (t : ListsTree new id files)
        → object_named id os ≡ Some (tree_content t.direct) → IsWithin (files_summary files)
    within-old id files t old =
        let kinds : kind_named id os ≡ Some kind.Tree =
        ap (option_map (λ (c : Content). c.kind)) old in
        let listed = (files-of digest os good id kinds).listed in
        let same : stored_files os id ≡ files =
        tree-only new id (stored_files os id) files
        (tree-later digest trees os id (stored_files os id) listed) t in
        subst (λ (fs : Listed). IsWithin (files_summary fs)) same
        (within-from digest os good fits id (stored_files os id) listed)

    within : AreWithin new
    within id files t =
        elim (one-of-trees digest (IsTold so_far) trees os told id (tree_content t.direct) t.tree.content) [
          | inl old ↦ within-old id files t old
          | inr one ↦
              let same : one.0 ≡ t.direct =
              tree_contents-injective one.0 t.direct one.1.writable t.tree.entries
              (ap (λ (c : Content). c.bytes) (sym one.2)) in
              subst IsWithin (ap (sum_of_tree so_far) same ∙ lists-sum new so_far sums t.lists)
              one.1.within
        ]

-- ---- an object that is no tree

pub other-fits : (os : List Object) → TreesFit [] os → (id : List ℕ) (c : Content)
    → c.kind ≢ kind.Tree → TreesFit [] (with_object id c os)
other-fits os fits id c ne =
    by_cases (is_some (object_named id os)) (λ yea. rw yea fits)
    (λ nay. rw nay (fits-append [] os (record { id = id; content = c } ∷ []) fits (by c.kind refl, tt)))
  where
    by : (k : Kind) → c.kind ≡ k → Fits k c.bytes (sums_after [] os)
    by kind.Tree is = absurd (ne is)
    by kind.Blob is = tt
    by kind.Commit is = tt
    by kind.Tag is = tt
