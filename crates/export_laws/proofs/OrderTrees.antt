-- The trees that the files of a stored tree make are those of the tree, in the same order.
use Rattle.std.proofs.Common.{◌≡◌, ◌≢◌, ℕ, zero, suc, ◌<◌, ◌≤◌, List, [], ◌∷◌, ◌++◌, map, refl, sym, ap, ◌∙◌, arith}
use Rattle.std.specs.List.{AllByRecursion, flat_map}
use Rattle.std.proofs.lemmas.List.{map-append}
use Rattle.git_model.specs.declared.file_mode.FileMode.{FileMode}
use Rattle.git_model.specs.declared.file_mode.FileMode.TheVariants as mode
use Rattle.git_model.specs.Repository.{Object}
use Rattle.git_model.specs.Tree.{TreeEntry}
use Rattle.file_maps.specs.FileMap.{Listed}
use Rattle.file_maps.specs.Edits.{moved}
use Rattle.file_maps.specs.Trees.{Groups, grouped, depth_of, tree_name, entries_within, trees_within as trees_made}
use Rattle.file_maps.specs.Below.{group_trees}
use Rattle.file_maps.specs.StoredTree.{HasTree, file_from, Lists, nothing, first_file, first_directory, ListsTree}
use Rattle.file_maps.specs.StoredAgain.{AreTreesGood, Every, IsFilled}
use Rattle.file_maps.proofs.Apart.{all-weaker}
use Rattle.file_maps.proofs.Listing.{Distinct, distinct, tree-sound}
use Rattle.file_maps.proofs.Nested.{entries-nil}
use Rattle.file_maps.proofs.Regrouped.{add-other, moved-grouped, lists-begin, depth-later, depth-below}
use Rattle.file_maps.proofs.StoredAgain.{filled-in, inside-some, lists-some, entries-again}
use Rattle.file_maps.proofs.StoredFiles.{RanksBelow, entries-at}
use Rattle.export_laws.specs.Order.{trees_by, trees_within}

-- ---- one level of them

made-none : (digest : List ℕ → List ℕ) (fs : Listed) → trees_made digest 0 fs ≡ [] ∷ []
unfolding trees_made
made-none digest fs = refl

made-step : (digest : List ℕ → List ℕ) (n : ℕ) (fs : Listed)
    → trees_made digest (suc n) fs ≡ flat_map (group_trees digest n) (grouped fs)
    ++ entries_within digest (suc n) fs ∷ []
unfolding trees_made
made-step digest n fs = refl

no-trees : (m : FileMode) (inner : List (List ℕ)) → m ≢ mode.Directory → trees_by m inner ≡ []
no-trees mode.Directory inner ne = absurd (ne refl)
no-trees mode.Regular inner ne = refl
no-trees mode.Executable inner ne = refl
no-trees mode.Symlink inner ne = refl
no-trees mode.Gitlink inner ne = refl

-- the trees of entries
abbrev pub trees_at : List Object → ℕ → List TreeEntry → List (List ℕ)
trees_at os k es = flat_map (λ e. trees_by e.mode (trees_within os k e.id)) es

pub trees-level : (os : List Object) (k : ℕ) (id : List ℕ) (es : List TreeEntry) → HasTree os id es
    → trees_within os (suc k) id ≡ trees_at os k es ++ id ∷ []
unfolding trees_within
trees-level os k id es h = ap (λ (l : List TreeEntry). trees_at os k l ++ id ∷ []) (entries-at os id es h)

-- ---- all of them

module _ (os : List Object) (rank : List ℕ → ℕ)
    (falls : (id : List ℕ) (es : List TreeEntry) → HasTree os id es → RanksBelow rank (rank id) es) where
  -- what stands below a tree ranks below it
  pub below : (id : List ℕ) (es : List TreeEntry) (k : ℕ) → HasTree os id es → rank id < suc k
      → RanksBelow rank k es
  below id es k has lt =
      all-weaker (λ (e : TreeEntry). e.mode ≡ mode.Directory → rank e.id < rank id)
      (λ (e : TreeEntry). e.mode ≡ mode.Directory → rank e.id < k)
      (λ e d is. let b = d is in omega arith) es (falls id es has)

module _ (digest : List ℕ → List ℕ) (os : List Object) (good : AreTreesGood digest os Every)
    (rank : List ℕ → ℕ)
    (falls : (id : List ℕ) (es : List TreeEntry) → HasTree os id es → RanksBelow rank (rank id) es) where
  abbrev names : List (List TreeEntry) → List (List ℕ)
  names trees = map (tree_name digest) trees

  -- the last one has the name of the tree
  own-name : (id : List ℕ) (fs : Listed) (t : ListsTree os id fs) (n : ℕ) → depth_of fs ≤ n
      → tree_name digest (entries_within digest n fs) ≡ id
  own-name id fs t n deep =
      ap (tree_name digest) (entries-again digest os Every good id fs t tt n deep) ∙ sym (good.named id t.direct t.tree)

  level-names : (id : List ℕ) (fs : Listed) (t : ListsTree os id fs) (n k : ℕ) → depth_of fs ≤ suc n
      → names (flat_map (group_trees digest n) (grouped fs)) ≡ trees_at os k t.direct
      → names (trees_made digest (suc n) fs) ≡ trees_within os (suc k) id
  level-names id fs t n k deep inner =
      ap names (made-step digest n fs)
      ∙ map-append (tree_name digest) (flat_map (group_trees digest n) (grouped fs)) (entries_within digest (suc n) fs ∷ [])
      ∙ ap (λ (l : List (List ℕ)). l ++ tree_name digest (entries_within digest (suc n) fs) ∷ []) inner
      ∙ ap (λ (own : List ℕ). trees_at os k t.direct ++ own ∷ []) (own-name id fs t (suc n) deep)
      ∙ sym (trees-level os k id t.direct t.tree)

  names-again : {es : List TreeEntry} {fs : Listed} → Lists os es fs → (n : ℕ)
      → depth_of fs ≤ suc n → Distinct es → AllByRecursion (IsFilled os Every) es → (k : ℕ)
      → RanksBelow rank k es
      → names (flat_map (group_trees digest n) (grouped fs)) ≡ trees_at os k es
  names-again nothing n deep d h k r = refl
  names-again (first_file e es files ne l) n deep d h k r =
      ap (λ (gs : Groups). names (flat_map (group_trees digest n) gs))
      (add-other e.name ([], (file_from e).1) (grouped files) (lists-begin e.name l d.0))
      ∙ names-again l n (omega arith) d.1 h.1 k r.1
      ∙ sym (ap (λ (l : List (List ℕ)). l ++ trees_at os k es) (no-trees e.mode (trees_within os k e.id) ne))
  names-again (first_directory e es inside [] files is has sub l) n deep d h k r =
      absurd (lists-some digest os Every good sub (filled-in digest os Every good e.id inside has tt)
      (inside-some digest os Every good e inside h.0 is has) refl)
  names-again (first_directory e es inside (([], x) ∷ under) files is has sub l) n deep d h k r =
      absurd ((tree-sound os e.id (([], x) ∷ under)
      (record { direct = inside; tree = has; lists = sub })).0.below_the_root refl)
  names-again (first_directory e es inside (((c ∷ q), x) ∷ under) files is has sub l) zero deep d h k r =
      let within = depth-below e.name (((c ∷ q), x) ∷ under) files 0 deep in absurd (omega arith)
  names-again (first_directory e es inside (((c ∷ q), x) ∷ under) files is has sub l) (suc n) deep d h zero r =
      let lt = r.0 is in absurd (omega arith)
  names-again (first_directory e es inside (((c ∷ q), x) ∷ under) files is has sub l) (suc n) deep d h (suc k) r =
      let fs : Listed = ((c ∷ q), x) ∷ under in
      let within = depth-below e.name fs files (suc n) deep in
      let inner : names (trees_made digest (suc n) fs) ≡ trees_within os (suc k) e.id =
      level-names e.id fs (record { direct = inside; tree = has; lists = sub }) n k within
      (names-again sub n within (distinct inside has.entries.names_are_distinct)
      (filled-in digest os Every good e.id inside has tt) k (below os rank falls e.id inside k has (r.0 is))) in
      ap (λ (gs : Groups). names (flat_map (group_trees digest (suc n)) gs))
      (moved-grouped e.name ((c ∷ q), x) under files (lists-begin e.name l d.0))
      ∙ map-append (tree_name digest) (trees_made digest (suc n) fs) (flat_map (group_trees digest (suc n)) (grouped files))
      ∙ ap (λ (l : List (List ℕ)). l ++ names (flat_map (group_trees digest (suc n)) (grouped files))) inner
      ∙ ap (λ (l : List (List ℕ)). trees_within os (suc k) e.id ++ l)
      (names-again l (suc n) (depth-later (moved (e.name ∷ []) fs) files (suc (suc n)) deep) d.1 h.1 (suc k) r.1)
      ∙ sym (ap (λ (m : FileMode). trees_by m (trees_within os (suc k) e.id) ++ trees_at os (suc k) es) is)

  pub trees-named : (id : List ℕ) (fs : Listed) (t : ListsTree os id fs) (n k : ℕ) → depth_of fs ≤ n
      → rank id < k → names (trees_made digest n fs) ≡ trees_within os k id
  trees-named id fs t n zero deep lt = absurd (omega arith)
  trees-named id fs t zero (suc k) deep lt =
      let none : [] ≡ t.direct =
      sym (entries-nil digest 0 fs refl) ∙ entries-again digest os Every good id fs t tt 0 deep in
      ap names (made-none digest fs)
      ∙ ap (λ (es : List TreeEntry). tree_name digest es ∷ []) none
      ∙ ap (λ (own : List ℕ). own ∷ []) (sym (good.named id t.direct t.tree))
      ∙ ap (λ (es : List TreeEntry). trees_at os k es ++ id ∷ []) none
      ∙ sym (trees-level os k id t.direct t.tree)
  trees-named id fs t (suc n) (suc k) deep lt =
      level-names id fs t n k deep
      (names-again t.lists n deep (distinct t.direct t.tree.entries.names_are_distinct)
      (filled-in digest os Every good id t.direct t.tree tt) k (below os rank falls id t.direct k t.tree lt))

  -- ---- as many levels as there are objects are enough

  abbrev SameTrees : ℕ → ℕ → Type 0
  SameTrees k j = (id : List ℕ) (es : List TreeEntry) → HasTree os id es → rank id < k → rank id < j
      → trees_within os k id ≡ trees_within os j id

  one-same : (k j : ℕ) → SameTrees k j → (e : TreeEntry) → (e.mode ≡ mode.Directory → rank e.id < k)
      → (e.mode ≡ mode.Directory → rank e.id < j) → IsFilled os Every e
      → trees_by e.mode (trees_within os k e.id) ≡ trees_by e.mode (trees_within os j e.id)
  one-same k j same e r s h = by e.mode refl
    where
      by : (m : FileMode) → e.mode ≡ m → trees_by m (trees_within os k e.id) ≡ trees_by m (trees_within os j e.id)
      by mode.Directory is = let t = h is in same e.id t.inside t.tree (r is) (s is)
      by mode.Regular is = refl
      by mode.Executable is = refl
      by mode.Symlink is = refl
      by mode.Gitlink is = refl

  all-same : (k j : ℕ) → SameTrees k j → (es : List TreeEntry) → RanksBelow rank k es → RanksBelow rank j es
      → AllByRecursion (IsFilled os Every) es → trees_at os k es ≡ trees_at os j es
  all-same k j same [] r s h = refl
  all-same k j same (e ∷ es) r s h =
      ap (λ (l : List (List ℕ)). l ++ trees_at os k es) (one-same k j same e r.0 s.0 h.0)
      ∙ ap (λ (l : List (List ℕ)). trees_by e.mode (trees_within os j e.id) ++ l) (all-same k j same es r.1 s.1 h.1)

  pub same-trees : (k j : ℕ) → SameTrees k j
  same-trees zero j id es has lt lt' = absurd (omega arith)
  same-trees (suc k) zero id es has lt lt' = absurd (omega arith)
  same-trees (suc k) (suc j) id es has lt lt' =
      trees-level os k id es has
      ∙ ap (λ (l : List (List ℕ)). l ++ id ∷ [])
      (all-same k j (same-trees k j) es (below os rank falls id es k has lt) (below os rank falls id es j has lt')
      (filled-in digest os Every good id es has tt))
      ∙ sym (trees-level os j id es has)
