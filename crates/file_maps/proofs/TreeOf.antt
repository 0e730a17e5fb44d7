-- The tree of a path lists what stands one component below it.
use Rattle.std.proofs.Common.{◌≡◌, ◌≢◌, ℕ, zero, suc, ◌≤◌, false, length, List, [], ◌∷◌}
use Rattle.std.proofs.Common.{◌++◌, map, refl, sym, ap, ◌∙◌, subst, arith}
use Rattle.std.specs.Prelude.{AllPairs, Contains, IsSorted, Option, Some, None}
use Rattle.std.specs.List.{AllByRecursion}
use Rattle.std.proofs.lemmas.List.Elements.{All-contains, All-from_recursion, Contains-append_right}
use Rattle.git_model.specs.Tree.{TreeEntry, tree_cmp}
use Rattle.git_paths.proofs.Cases.{some_is}
use Rattle.file_maps.specs.declared.entry.Entry.{Entry}
use Rattle.file_maps.specs.FileMap.{Path, Listed, FileMap, listed, AreFiles}
use Rattle.file_maps.specs.Edits.{files_at, is_root}
use Rattle.file_maps.specs.Trees.{Groups, grouped, file_of, direct, depth_of, entries_within}
use Rattle.file_maps.specs.Trees.{tree_entries, tree_id, tree_name, entry_or, entry_at}
use Rattle.file_maps.specs.ByComponent.{IsTreeByComponent, what}
use Rattle.file_maps.proofs.Apart.{all-map, all-weaker}
use Rattle.file_maps.proofs.Fits.{File, grouped-all, depth_each, groups-are}
use Rattle.file_maps.proofs.Written.{no_pairs, names_differ, tree_order}
use Rattle.file_maps.proofs.Cutting.{storable-cut, depth-file}
use Rattle.file_maps.proofs.ByComponent.{rise-cut, those, by-component}

-- ---- more components than the files have change no tree

depth_within : (fs : Listed) (n : ℕ) → AllByRecursion (λ f. suc (length f.0) ≤ suc n) fs
    → depth_of fs ≤ n
depth_within [] n h = omega arith
depth_within (f ∷ fs) n h = let one = h.0 in let rest = depth_within fs n h.1 in omega arith

pub depth-groups : (fs : Listed) (n : ℕ) → depth_of fs ≤ suc n
    → AllByRecursion (λ g. depth_of g.1 ≤ n) (grouped fs)
depth-groups fs n h =
    all-weaker (λ (g : List ℕ × Listed). AllByRecursion (λ f. suc (length f.0) ≤ suc n) g.1)
    (λ g. depth_of g.1 ≤ n)
    (λ g k. depth_within g.1 n k) (grouped fs)
    (grouped-all (λ (f : File). length f.0 ≤ suc n) fs (depth_each fs (suc n) h))

pub no_groups : (fs : Listed) → depth_of fs ≤ 0 → grouped fs ≡ []
no_groups [] h = refl
no_groups (([], e) ∷ fs) h = no_groups fs (omega arith)
no_groups (((c ∷ q), e) ∷ fs) h = absurd (omega arith)

pub map-all : {A B : Type 0} (f g : A → B) (xs : List A) → AllByRecursion (λ x. f x ≡ g x) xs
    → map f xs ≡ map g xs
map-all f g [] h = refl
map-all f g (x ∷ xs) h = let rest = map-all f g xs h.1 in λ i. h.0 i ∷ rest i

same_each : (digest : List ℕ → List ℕ) (n k : ℕ)
    → ((fs : Listed) → depth_of fs ≤ n → depth_of fs ≤ k → entries_within digest n fs ≡ entries_within digest k fs)
    → (gs : Groups) → AllByRecursion (λ g. depth_of g.1 ≤ n) gs
    → AllByRecursion (λ g. depth_of g.1 ≤ k) gs
    → AllByRecursion (λ g. direct g.0 (file_of g.1) (tree_name digest (entries_within digest n g.1))
    ≡ direct g.0 (file_of g.1) (tree_name digest (entries_within digest k g.1))) gs
same_each digest n k same [] p q = tt
same_each digest n k same (g ∷ gs) p q = (
  ap (λ (es : List TreeEntry). direct g.0 (file_of g.1) (tree_name digest es)) (same g.1 p.0 q.0),
  same_each digest n k same gs p.1 q.1,
)

pub deeper : (digest : List ℕ → List ℕ) (n k : ℕ) (fs : Listed) → depth_of fs ≤ n → depth_of fs ≤ k
    → entries_within digest n fs ≡ entries_within digest k fs
unfolding entries_within
deeper digest zero zero fs a b = refl
deeper digest zero (suc k) fs a b = rw (no_groups fs a) refl
deeper digest (suc n) zero fs a b = rw (no_groups fs b) refl
deeper digest (suc n) (suc k) fs a b =
    map-all _ _ (grouped fs)
    (same_each digest n k (λ l p q. deeper digest n k l p q) (grouped fs) (depth-groups fs n a) (depth-groups fs k b))

-- ---- the entry of a group

module _ (digest : List ℕ → List ℕ) where
  abbrev pub entry_of : List ℕ × Listed → TreeEntry
  entry_of g = direct g.0 (file_of g.1) (tree_id digest g.1)

  own_depth : (n : ℕ) (gs : Groups) → AllByRecursion (λ g. depth_of g.1 ≤ n) gs
      → AllByRecursion (λ g. direct g.0 (file_of g.1) (tree_name digest (entries_within digest n g.1)) ≡ entry_of g) gs
  own_depth n [] h = tt
  own_depth n (g ∷ gs) h = (
    ap (λ (es : List TreeEntry). direct g.0 (file_of g.1) (tree_name digest es))
        (deeper digest n (depth_of g.1) g.1 h.0 (omega arith)),
    own_depth n gs h.1,
  )

  pub within-groups : (n : ℕ) (fs : Listed) → depth_of fs ≤ n
      → entries_within digest n fs ≡ map entry_of (grouped fs)
  unfolding entries_within
  within-groups zero fs h = rw (no_groups fs h) refl
  within-groups (suc n) fs h =
      map-all _ _ (grouped fs) (own_depth n (grouped fs) (depth-groups fs n h))

  direct-name : (c : List ℕ) (o : Option Entry) (id : List ℕ) → (direct c o id).name ≡ c
  direct-name c (Some e) id = refl
  direct-name c None id = refl

  -- what stands where files are
  stands : (c : List ℕ) (fs : Listed) → fs ≢ []
      → entry_or digest false fs (file_of fs) ≡ Some (what (entry_of (c, fs)))
  stands c [] some = absurd (some refl)
  stands c (f ∷ fs) some = by (file_of (f ∷ fs))
    where
      by : (o : Option Entry)
          → entry_or digest false (f ∷ fs) o ≡ Some (what (direct c o (tree_id digest (f ∷ fs))))
      by (Some e) = refl
      by None = refl

  nothing : (fs : Listed) (e : Entry) → entry_or digest false fs (file_of fs) ≡ Some e → fs ≢ []
  nothing fs e is none =
      let no : ◌≡◌ {A = Option Entry} None (Some e) =
      ap (λ (l : Listed). entry_or digest false l (file_of l)) (sym none) ∙ is in cc no

not_root : (top : Path) (c : List ℕ) → is_root (top ++ c ∷ []) ≡ false
not_root [] c = refl
not_root (d ∷ top) c = refl

same_entry : (s t : TreeEntry) → s.name ≡ t.name → what s ≡ what t → s ≡ t
same_entry s t n e i = record { mode = (e i).mode; name = n i; id = (e i).name }

pub contains_map : {A B : Type 0} (f : A → B) (xs : List A) (x : A) → Contains xs x
    → Contains (map f xs) (f x)
contains_map f [] x (k, lt, is) = absurd (omega arith)
contains_map f (y ∷ xs) x (zero, lt, is) = (0, omega arith, ap f is)
contains_map f (y ∷ xs) x (suc k, lt, is) =
    Contains-append_right (f y ∷ []) (map f xs) (f x) (contains_map f xs x (k, omega arith, is))

-- ---- the law

module _ (digest : List ℕ → List ℕ) (m : FileMap) (top : Path) (are : AreFiles (listed m)) where
  abbrev fs : Listed
  fs = files_at m top

  abbrev at : List ℕ → Listed
  at c = files_at m (top ++ c ∷ [])

  abbrev Stands : TreeEntry → Type 0
  Stands t = entry_at digest m (top ++ t.name ∷ []) ≡ Some (what t)

  is-entries : tree_entries digest fs ≡ map (entry_of digest) (grouped fs)
  is-entries = within-groups digest (depth_of fs) fs (omega arith)

  entry-there : (c : List ℕ)
      → entry_at digest m (top ++ c ∷ []) ≡ entry_or digest false (at c) (file_of (at c))
  entry-there c = ap (λ b. entry_or digest b (at c) (file_of (at c))) (not_root top c)

  group-stands : (g : List ℕ × Listed) → (g.1 ≡ at g.0) × (g.1 ≢ []) → Stands (entry_of digest g)
  group-stands g (is, some) =
      subst (λ (c : List ℕ). entry_at digest m (top ++ c ∷ []) ≡ Some (what (entry_of digest g)))
      (sym (direct-name digest g.0 (file_of g.1) (tree_id digest g.1)))
      (entry-there g.0
      ∙ ap (λ (l : Listed). entry_or digest false l (file_of l)) (sym is)
      ∙ stands digest g.0 g.1 some)

  all-stand : AllByRecursion Stands (map (entry_of digest) (grouped fs))
  all-stand =
      all-map (entry_of digest) Stands (grouped fs)
      (all-weaker (λ g. (g.1 ≡ at g.0) × (g.1 ≢ [])) (λ g. Stands (entry_of digest g)) group-stands (grouped fs) (those m top are))

  listed-there : (t : TreeEntry) → Stands t → Contains (map (entry_of digest) (grouped fs)) t
  listed-there t is =
      let here = sym (entry-there t.name) ∙ is in
      let some : at t.name ≢ [] = nothing digest (at t.name) (what t) here in
      let group : Contains (grouped fs) (t.name, at t.name) = ((by-component m top are).files t.name (at t.name)).1 (refl, some) in
      let same : what (entry_of digest (t.name, at t.name)) ≡ what t = some_is _ _ (sym (stands digest t.name (at t.name) some) ∙ here) in
      subst (Contains (map (entry_of digest) (grouped fs)))
      (same_entry (entry_of digest (t.name, at t.name)) t (direct-name digest t.name (file_of (at t.name)) (tree_id digest (at t.name))) same)
      (contains_map (entry_of digest) (grouped fs) (t.name, at t.name) group)

  abbrev IsWell : List TreeEntry → Type 0
  IsWell es = AllPairs (λ a b. a.name ≢ b.name) es × IsSorted tree_cmp es

  well-none : IsWell []
  well-none = (no_pairs (λ a b. a.name ≢ b.name), λ k d low high. absurd (omega arith))

  well-by : (n : ℕ) → n ≡ depth_of fs → (o : Option Entry) → file_of fs ≡ o
      → IsWell (entries_within digest n fs)
  unfolding entries_within
  well-by zero is o file = well-none
  well-by (suc n) is (Some e) file =
      absurd (let none = depth-file top (listed m) e are file in omega (arith, is, none))
  well-by (suc n) is None file =
      let groups = groups-are fs (storable-cut top (listed m) are file) in
      let rise = rise-cut top (listed m) are in
      (names_differ digest n (depth_of fs) (grouped fs) groups rise, tree_order digest n (depth_of fs) (grouped fs) groups rise)

  pub tree-of : IsTreeByComponent digest m top (tree_entries digest fs)
  tree-of =
      let well = well-by (depth_of fs) refl (file_of fs) refl in record {
        entries = λ t. (
          λ held. All-contains Stands (map (entry_of digest) (grouped fs)) t
              (All-from_recursion Stands (map (entry_of digest) (grouped fs)) all-stand)
              (subst (λ (es : List TreeEntry). Contains es t) is-entries held),
          λ is. subst (λ (es : List TreeEntry). Contains es t) (sym is-entries) (listed-there t is),
        );
        once = well.0;
        in_order = well.1;
      }
