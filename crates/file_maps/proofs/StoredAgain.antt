-- The files of a stored tree make it again.
use Rattle.std.proofs.Common.{◌≡◌, ◌≢◌, ℕ, zero, suc, ◌≤◌, false, List, [], ◌∷◌, ◌++◌, length, map, Option, Some, None, refl, sym, ap, ◌∙◌, subst, arith}
use Rattle.std.specs.Prelude.{nat_lt}
use Rattle.std.specs.List.{AllByRecursion, flat_map}
use Rattle.std.proofs.lemmas.Bool.{le-ltb}
use Rattle.std.proofs.lemmas.List.Elements.{recursion_from_All}
use Rattle.git_model.specs.declared.file_mode.FileMode.TheVariants as mode
use Rattle.git_model.specs.Content.{Content}
use Rattle.git_model.specs.Repository.{Object, object_named, with_object}
use Rattle.git_model.specs.Tree.{TreeEntry}
use Rattle.content_pool.proofs.StoredLemmas.{same_content-decides}
use Rattle.tenant_tables.specs.declared.fault.Fault.{Fault as TableFault}
use Rattle.tenant_tables.specs.declared.table.TheConstants.{CONTENTS_LIMIT}
use Rattle.tenant_tables.specs.Adding.{store_fault}
use Rattle.file_maps.specs.FileMap.{Listed}
use Rattle.file_maps.specs.Edits.{moved}
use Rattle.file_maps.specs.Trees.{Groups, grouped, depth_of, tree_content, tree_name, entries_within, trees_within, nested_trees}
use Rattle.file_maps.specs.Below.{group_trees}
use Rattle.file_maps.specs.StoredTree.{HasTree, file_from, Lists, nothing, first_file, first_directory, ListsTree}
use Rattle.file_maps.specs.Storing.{with_trees, trees_fault, or_later}
use Rattle.file_maps.specs.StoredAgain.{IsFilled, AreTreesGood, IsStoredAlready}
use Rattle.file_maps.proofs.Listing.{Distinct, distinct, has-only, tree-sound, all-append}
use Rattle.file_maps.proofs.Nested.{direct_of, entries-nil}
use Rattle.file_maps.proofs.Regrouped.{add-other, moved-grouped, lists-begin, depth-later, depth-below}

-- one level of them
step : (digest : List ℕ → List ℕ) (n : ℕ) (fs : Listed)
    → entries_within digest (suc n) fs ≡ map (direct_of digest n) (grouped fs)
unfolding entries_within
step digest n fs = refl

trees-step : (digest : List ℕ → List ℕ) (n : ℕ) (fs : Listed)
    → trees_within digest (suc n) fs ≡ flat_map (group_trees digest n)
    (grouped fs) ++ entries_within digest (suc n) fs ∷ []
unfolding trees_within
trees-step digest n fs = refl

trees-nil : (digest : List ℕ → List ℕ) (fs : Listed) → trees_within digest 0 fs ≡ [] ∷ []
unfolding trees_within
trees-nil digest fs = refl

-- an object that is there
there : (id : List ℕ) (c : Content) (os : List Object) → object_named id os ≡ Some c
    → with_object id c os ≡ os
there id c os h = rw h refl

free : (id : List ℕ) (c : Content) (os : List Object) → object_named id os ≡ Some c
    → length c.bytes ≤ CONTENTS_LIMIT → store_fault id c os ≡ None
unfolding store_fault
free id c os h short =
    let fits : nat_lt CONTENTS_LIMIT (length c.bytes) ≡ false = le-ltb _ _ short in
    rw (fits, h, (same_content-decides c c).1 refl) refl

module _ (digest : List ℕ → List ℕ) (os : List Object) (Meant : List ℕ → Type 0)
    (good : AreTreesGood digest os Meant) where
  pub filled-in : (id : List ℕ) (es : List TreeEntry) → HasTree os id es → Meant id
      → AllByRecursion (IsFilled os Meant) es
  filled-in id es h meant = recursion_from_All (IsFilled os Meant) es (good.filled id es h meant)

  pub inside-some : (e : TreeEntry) (inside : List TreeEntry) → IsFilled os Meant e → e.mode ≡ mode.Directory
      → HasTree os e.id inside → inside ≢ []
  inside-some e inside h is has =
      let t = h is in subst (λ (x : List TreeEntry). x ≢ [])
      (has-only os e.id t.inside inside t.tree has) t.some

  -- entries list files
  pub lists-some : {es : List TreeEntry} {fs : Listed} → Lists os es fs
      → AllByRecursion (IsFilled os Meant) es → es ≢ [] → fs ≢ []
  lists-some nothing h ne = absurd (ne refl)
  lists-some (first_file e es files file l) h ne = λ x. cc x
  lists-some (first_directory e es inside [] files is has sub l) h ne =
      absurd (lists-some sub (filled-in e.id inside has (h.0 is).meant) (inside-some e inside h.0 is has) refl)
  lists-some (first_directory e es inside (f ∷ below) files is has sub l) h ne = λ x. cc x

  -- ---- all trees

  -- a tree is there under its name
  abbrev pub Held : List TreeEntry → Type 0
  Held es = HasTree os (tree_name digest es) es

  held : (id : List ℕ) (es ds : List TreeEntry) → HasTree os id es → ds ≡ es → Held ds
  held id es ds h is =
      subst Held (sym is) (subst (λ (x : List ℕ). HasTree os x es) (good.named id es h) h)

  -- the groups of what entries list are these entries again, and their trees are there
  listed-again : {es : List TreeEntry} {fs : Listed} → Lists os es fs → (n : ℕ)
      → depth_of fs ≤ suc n → Distinct es → AllByRecursion (IsFilled os Meant) es
      → (map (direct_of digest n) (grouped fs) ≡ es)
      × AllByRecursion Held (flat_map (group_trees digest n) (grouped fs))
  listed-again nothing n deep d h = (refl, tt)
  listed-again (first_file e es files ne l) n deep d h =
      let rest = listed-again l n (omega arith) d.1 h.1 in
      let same = add-other e.name ([], (file_from e).1) (grouped files) (lists-begin e.name l d.0) in (
        ap (map (direct_of digest n)) same ∙ ap (λ (r : List TreeEntry). e ∷ r) rest.0,
        subst (λ (gs : Groups). AllByRecursion Held (flat_map (group_trees digest n) gs)) (sym same)
            rest.1,
      )
  listed-again (first_directory e es inside [] files is has sub l) n deep d h =
      absurd (lists-some sub (filled-in e.id inside has (h.0 is).meant) (inside-some e inside h.0 is has) refl)
  listed-again (first_directory e es inside (([], x) ∷ below) files is has sub l) n deep d h =
      absurd ((tree-sound os e.id (([], x) ∷ below)
      (record { direct = inside; tree = has; lists = sub })).0.below_the_root refl)
  listed-again
      (first_directory e es inside (((c ∷ q), x) ∷ below) files is has sub l) zero deep d h =
      let within = depth-below e.name (((c ∷ q), x) ∷ below) files 0 deep in absurd (omega arith)
  listed-again (first_directory e es inside (((c ∷ q), x) ∷ below) files is has sub l)
      (suc n) deep d h =
      let fs : Listed = ((c ∷ q), x) ∷ below in
      let inner = listed-again sub n (depth-below e.name fs files (suc n) deep)
      (distinct inside has.entries.names_are_distinct) (filled-in e.id inside has (h.0 is).meant) in
      let rest = listed-again l (suc n)
      (depth-later (moved (e.name ∷ []) fs) files (suc (suc n)) deep) d.1 h.1 in
      let same = moved-grouped e.name ((c ∷ q), x) below files (lists-begin e.name l d.0) in
      let entries : entries_within digest (suc n) fs ≡ inside = step digest n fs ∙ inner.0 in
      let name : tree_name digest (entries_within digest (suc n) fs) ≡ e.id =
      ap (tree_name digest) entries ∙ sym (good.named e.id inside has) in
      let here : direct_of digest (suc n) (e.name, fs) ≡ e =
      let back = sym is in λ i. record { mode = back i; name = e.name; id = name i } in
      let trees : AllByRecursion Held (trees_within digest (suc n) fs) =
      subst (AllByRecursion Held) (sym (trees-step digest n fs))
      (all-append Held (flat_map (group_trees digest n) (grouped fs))
      (entries_within digest (suc n) fs ∷ []) inner.1 (held e.id inside _ has entries, tt)) in (
        ap (map (direct_of digest (suc n))) same
            ∙ ap (λ (t : TreeEntry). t ∷ map (direct_of digest (suc n)) (grouped files)) here
            ∙ ap (λ (r : List TreeEntry). e ∷ r) rest.0,
        subst (λ (gs : Groups). AllByRecursion Held (flat_map (group_trees digest (suc n)) gs))
            (sym same)
            (all-append Held (trees_within digest (suc n) fs)
            (flat_map (group_trees digest (suc n)) (grouped files)) trees rest.1),
      )

  -- ---- the tree of a name

  no_entries : (es : List TreeEntry) → Lists os es [] → AllByRecursion (IsFilled os Meant) es → es ≡ []
  no_entries [] l h = refl
  no_entries (e ∷ es) l h = absurd (lists-some l h (λ x. cc x) refl)

  pub entries-again : (id : List ℕ) (fs : Listed) (t : ListsTree os id fs) → Meant id → (n : ℕ)
      → depth_of fs ≤ n → entries_within digest n fs ≡ t.direct
  entries-again id [] t meant zero deep =
      entries-nil digest 0 [] refl
      ∙ sym (no_entries t.direct t.lists (filled-in id t.direct t.tree meant))
  entries-again id (([], x) ∷ fs) t meant zero deep =
      absurd ((tree-sound os id (([], x) ∷ fs) t).0.below_the_root refl)
  entries-again id (((c ∷ q), x) ∷ fs) t meant zero deep = absurd (omega arith)
  entries-again id fs t meant (suc n) deep =
      step digest n fs
      ∙ (listed-again t.lists n deep (distinct t.direct t.tree.entries.names_are_distinct)
      (filled-in id t.direct t.tree meant)).0

  pub trees-held : (id : List ℕ) (fs : Listed) (t : ListsTree os id fs) → Meant id → (n : ℕ)
      → depth_of fs ≤ n → AllByRecursion Held (trees_within digest n fs)
  trees-held id fs t meant zero deep =
      subst (AllByRecursion Held) (sym (trees-nil digest fs)) (
        held id t.direct [] t.tree
            (sym (entries-nil digest 0 fs refl) ∙ entries-again id fs t meant 0 deep),
        tt,
      )
  trees-held id fs t meant (suc n) deep =
      subst (AllByRecursion Held) (sym (trees-step digest n fs))
      (all-append Held (flat_map (group_trees digest n) (grouped fs))
      (entries_within digest (suc n) fs ∷ [])
      (listed-again t.lists n deep (distinct t.direct t.tree.entries.names_are_distinct)
      (filled-in id t.direct t.tree meant)).1
      (held id t.direct _ t.tree (entries-again id fs t meant (suc n) deep), tt))

  -- ---- storing trees that are there

  pub kept-all : (trees : List (List TreeEntry)) → AllByRecursion Held trees
      → with_trees digest trees os ≡ os
  kept-all [] h = refl
  kept-all (es ∷ trees) h =
      ap (with_trees digest trees) (there (tree_name digest es) (tree_content es) os h.0.content)
      ∙ kept-all trees h.1

  pub unrefused-all : (trees : List (List TreeEntry)) → AllByRecursion Held trees
      → trees_fault digest trees os ≡ None
  unrefused-all [] h = refl
  unrefused-all (es ∷ trees) h =
      ap (λ (f : Option TableFault). or_later f
      (trees_fault digest trees (with_object (tree_name digest es) (tree_content es) os)))
      (free (tree_name digest es) (tree_content es) os h.0.content
      (good.short (tree_name digest es) es h.0))
      ∙ ap (trees_fault digest trees) (there (tree_name digest es) (tree_content es) os h.0.content)
      ∙ unrefused-all trees h.1

-- the law
pub stored-already : (digest : List ℕ → List ℕ) (os : List Object) (Meant : List ℕ → Type 0)
    → AreTreesGood digest os Meant → (id : List ℕ) (fs : Listed) → ListsTree os id fs → Meant id
    → IsStoredAlready digest os id fs
stored-already digest os Meant good id fs t meant =
    let same = entries-again digest os Meant good id fs t meant (depth_of fs) (omega arith) in
    let all = trees-held digest os Meant good id fs t meant (depth_of fs) (omega arith) in record {
      tree = subst (HasTree os id) (sym same) t.tree;
      name = ap (tree_name digest) same ∙ sym (good.named id t.direct t.tree);
      kept = kept-all digest os Meant good (nested_trees digest fs) all;
      unrefused = unrefused-all digest os Meant good (nested_trees digest fs) all;
    }
