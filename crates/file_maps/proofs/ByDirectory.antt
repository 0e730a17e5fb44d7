-- The trees of files are those of their directories, children first.
use Rattle.std.proofs.Common.{◌≡◌, ◌≢◌, ◌⊎◌, inl, inr, ℕ, zero, suc, ◌≤◌, false, List, [], ◌∷◌}
use Rattle.std.proofs.Common.{◌++◌, map, Option, Some, None, refl, sym, ap, ◌∙◌, subst}
use Rattle.std.proofs.Common.{append_assoc, arith}
use Rattle.std.specs.Prelude.{AllPairs, Contains}
use Rattle.std.specs.List.{AllByRecursion, flat_map}
use Rattle.std.proofs.lemmas.List.{append-nil, map-append}
use Rattle.std.proofs.lemmas.List.Elements.{All-contains, All-from_recursion}
use Rattle.std.proofs.lemmas.List.Elements.{Contains-append_left, Contains-append_right}
use Rattle.std.proofs.lemmas.List.Kept.{AllPairs-cons}
use Rattle.git_model.specs.declared.file_mode.FileMode.TheVariants as mode
use Rattle.git_model.specs.Tree.{TreeEntry}
use Rattle.git_paths.proofs.Cases.{some_is}
use Rattle.file_maps.specs.declared.entry.Entry.{Entry}
use Rattle.file_maps.specs.FileMap.{Path, Listed, FileMap, listed, IsFile, AreFiles}
use Rattle.file_maps.specs.Edits.{cut, files_at, is_root}
use Rattle.file_maps.specs.Trees.{Groups, grouped, file_of, depth_of, trees_within}
use Rattle.file_maps.specs.Trees.{nested_trees, tree_entries, unless_file, entry_or, entry_at}
use Rattle.file_maps.specs.Trees.{directory}
use Rattle.file_maps.specs.ByComponent.{ComesBefore, AreByDirectory}
use Rattle.file_maps.proofs.Apart.{all-map, all-weaker, all-both, cut-all}
use Rattle.file_maps.proofs.Nested.{entries-nil}
use Rattle.file_maps.proofs.Rising.{Bytes, below, group_key, Rises, GroupsRise}
use Rattle.file_maps.proofs.Cutting.{depth-file}
use Rattle.file_maps.proofs.ByComponent.{cut-cut, rise-cut, those, by-component}
use Rattle.file_maps.proofs.TreeOf.{depth-groups, deeper, contains_map}

abbrev Group : Type 0
Group = List ℕ × Listed

all_append : {A : Type 0} (P : A → Type 0) (xs ys : List A) → AllByRecursion P xs
    → AllByRecursion P ys → AllByRecursion P (xs ++ ys)
all_append P [] ys h k = k
all_append P (x ∷ xs) ys h k = (h.0, all_append P xs ys h.1 k)

append_same : {A : Type 0} (a b c d : List A) → a ≡ b → c ≡ d → a ++ c ≡ b ++ d
append_same a b c d p q i = p i ++ q i

all_of : {A : Type 0} (P : A → Type 0) → ((x : A) → P x) → (xs : List A) → AllByRecursion P xs
all_of P h [] = tt
all_of P h (x ∷ xs) = (h x, all_of P h xs)

-- ---- the directories, in the order of their trees

abbrev paths_by : Option Entry → List ℕ → List Path → List Path
paths_by o c ps = unless_file o (map (λ p. c ∷ p) ps)

abbrev dirs : ℕ → Listed → List Path
dirs zero fs = [] ∷ []
dirs (suc n) fs = flat_map (λ g. paths_by (file_of g.1) g.0 (dirs n g.1)) (grouped fs) ++ [] ∷ []

abbrev paths_of : ℕ → Group → List Path
paths_of n g = paths_by (file_of g.1) g.0 (dirs n g.1)

-- ---- they come children first

abbrev Ordered : List Path → Type 0
Ordered [] = Unit {0}
Ordered (p ∷ ps) = AllByRecursion (ComesBefore p) ps × Ordered ps

pairs_of : (ps : List Path) → Ordered ps → AllPairs ComesBefore ps
pairs_of [] h i j d lt within = absurd (omega arith)
pairs_of (p ∷ ps) h i j d lt within =
    AllPairs-cons ComesBefore p ps (All-from_recursion (ComesBefore p) ps h.0) (pairs_of ps h.1)
    i j d lt within

ordered_append : (xs ys : List Path) → Ordered xs → Ordered ys
    → AllByRecursion (λ x. AllByRecursion (ComesBefore x) ys) xs → Ordered (xs ++ ys)
ordered_append [] ys h k before = k
ordered_append (x ∷ xs) ys h k before =
    (all_append (ComesBefore x) xs ys h.0 before.0, ordered_append xs ys h.1 k before.1)

one_further : (c : List ℕ) (p q : Path) → ComesBefore p q → ComesBefore (c ∷ p) (c ∷ q)
one_further c p q h = ((λ same. h), (λ other. absurd (other refl)))

ordered_below : (c : List ℕ) (ps : List Path) → Ordered ps → Ordered (map (λ p. c ∷ p) ps)
ordered_below c [] h = tt
ordered_below c (p ∷ ps) h = (
  all-map (λ (q : Path). c ∷ q) (ComesBefore (c ∷ p)) ps
      (all-weaker (ComesBefore p) (λ q. ComesBefore (c ∷ p) (c ∷ q)) (one_further c p) ps h.0),
  ordered_below c ps h.1,
)

ordered_by : (o : Option Entry) (c : List ℕ) (ps : List Path) → Ordered ps
    → Ordered (paths_by o c ps)
ordered_by (Some e) c ps h = tt
ordered_by None c ps h = ordered_below c ps h

-- a path of a directory's group begins with its component
abbrev Begins : List ℕ → Path → Type 0
Begins c [] = ⊥
Begins c (d ∷ p) = c ≡ d

abbrev From : Group → Path → Type 0
From g p = (file_of g.1 ≡ None) × Begins g.0 p

from_group : (g : Group) (o : Option Entry) → file_of g.1 ≡ o → (ps : List Path)
    → AllByRecursion (From g) (paths_by o g.0 ps)
from_group g (Some e) is ps = tt
from_group g None is ps =
    all-map (λ (p : Path). g.0 ∷ p) (From g) ps (all_of (λ p. From g (g.0 ∷ p)) (λ p. (is, refl)) ps)

key_slash : (g : Group) → g.1 ≢ [] → file_of g.1 ≡ None → group_key g ≡ g.0 ++ 47 ∷ []
key_slash (c, []) some none = absurd (some refl)
key_slash (c, (([], e) ∷ fs)) some none = cc none
key_slash (c, (((d ∷ q), e) ∷ fs)) some none = refl

slashes : (g h : Group) → Rises g h → g.1 ≢ [] → h.1 ≢ [] → file_of g.1 ≡ None
    → file_of h.1 ≡ None → below (g.0 ++ 47 ∷ []) (h.0 ++ 47 ∷ [])
slashes g h r sg sh fg fh =
    subst (λ (k : Bytes). below k (h.0 ++ 47 ∷ [])) (key_slash g sg fg)
    (subst (λ (k : Bytes). below (group_key g) k) (key_slash h sh fh) r.0)

groups_before : (g h : Group) → Rises g h → g.1 ≢ [] → h.1 ≢ [] → (x y : Path) → From g x
    → From h y → ComesBefore x y
groups_before g h r sg sh [] y f k = absurd f.1
groups_before g h r sg sh (c ∷ x) [] f k = absurd k.1
groups_before g h r sg sh (c ∷ x) (d ∷ y) f k = (
  (λ same. absurd (r.1 (f.1 ∙ same ∙ sym k.1))),
  (λ other. subst (λ (b : Bytes). below b (d ++ 47 ∷ [])) (ap (λ (b : Bytes). b ++ 47 ∷ []) f.1)
      (subst (λ (b : Bytes). below (g.0 ++ 47 ∷ []) b) (ap (λ (b : Bytes). b ++ 47 ∷ []) k.1)
      (slashes g h r sg sh f.0 k.0))),
)

abbrev AllSome : Groups → Type 0
AllSome gs = AllByRecursion (λ g. g.1 ≢ []) gs

module _ (n : ℕ) where
  before_groups : (g : Group) (x : Path) → g.1 ≢ [] → From g x → (gs : Groups)
      → AllByRecursion (Rises g) gs → AllSome gs
      → AllByRecursion (ComesBefore x) (flat_map (paths_of n) gs)
  before_groups g x sg f [] r s = tt
  before_groups g x sg f (h ∷ gs) r s =
      all_append (ComesBefore x) (paths_of n h) (flat_map (paths_of n) gs)
      (all-weaker (From h) (ComesBefore x) (λ y k. groups_before g h r.0 sg s.0 x y f k) (paths_of n h)
      (from_group h (file_of h.1) refl (dirs n h.1)))
      (before_groups g x sg f gs r.1 s.1)

  ordered_groups : (gs : Groups) → GroupsRise gs → AllSome gs
      → AllByRecursion (λ g. Ordered (dirs n g.1)) gs → Ordered (flat_map (paths_of n) gs)
  ordered_groups [] r s h = tt
  ordered_groups (g ∷ gs) r s h =
      ordered_append (paths_of n g) (flat_map (paths_of n) gs)
      (ordered_by (file_of g.1) g.0 (dirs n g.1) h.0) (ordered_groups gs r.1 s.1 h.1)
      (all-weaker (From g) (λ x. AllByRecursion (ComesBefore x) (flat_map (paths_of n) gs))
      (λ x f. before_groups g x s.0 f gs r.0 s.1) (paths_of n g)
      (from_group g (file_of g.1) refl (dirs n g.1)))

  before_root : (g : Group) (x : Path) → From g x → AllByRecursion (ComesBefore x) ([] ∷ [])
  before_root g [] f = absurd f.1
  before_root g (c ∷ x) f = (tt, tt)

  all_before_root : (gs : Groups)
      → AllByRecursion (λ x. AllByRecursion (ComesBefore x) ([] ∷ [])) (flat_map (paths_of n) gs)
  all_before_root [] = tt
  all_before_root (g ∷ gs) =
      all_append (λ x. AllByRecursion (ComesBefore x) ([] ∷ [])) (paths_of n g)
      (flat_map (paths_of n) gs)
      (all-weaker (From g) (λ x. AllByRecursion (ComesBefore x) ([] ∷ [])) (before_root g)
      (paths_of n g) (from_group g (file_of g.1) refl (dirs n g.1)))
      (all_before_root gs)

  in_groups : (gs : Groups) (g : Group) → Contains gs g → file_of g.1 ≡ None → (p : Path)
      → Contains (dirs n g.1) p → Contains (flat_map (paths_of n) gs) (g.0 ∷ p)
  in_groups [] g (k, lt, is) none p inner = absurd (omega arith)
  in_groups (x ∷ gs) g (zero, lt, is) none p inner =
      Contains-append_left (paths_of n x) (flat_map (paths_of n) gs) (g.0 ∷ p)
      (subst (λ (y : Group). Contains (paths_of n y) (g.0 ∷ p)) (sym is)
      (subst (λ (o : Option Entry). Contains (paths_by o g.0 (dirs n g.1)) (g.0 ∷ p)) (sym none)
      (contains_map (λ (q : Path). g.0 ∷ q) (dirs n g.1) p inner)))
  in_groups (x ∷ gs) g (suc k, lt, is) none p inner =
      Contains-append_right (paths_of n x) (flat_map (paths_of n) gs) (g.0 ∷ p)
      (in_groups gs g (k, omega arith, is) none p inner)

no_below : (c : List ℕ) (p : Path) (fs : Listed) → depth_of fs ≤ 0 → cut (c ∷ p) fs ≡ []
no_below c p [] h = refl
no_below c p (([], e) ∷ fs) h = no_below c p fs (omega arith)
no_below c p (((d ∷ q), e) ∷ fs) h = absurd (omega arith)

not_root : (top : Path) (c : List ℕ) (p : Path) → is_root (top ++ c ∷ p) ≡ false
not_root [] c p = refl
not_root (d ∷ top) c p = refl

module _ (digest : List ℕ → List ℕ) (m : FileMap) (are : AreFiles (listed m)) where
  abbrev at : Path → Listed
  at p = files_at m p

  abbrev tree : Path → List TreeEntry
  tree p = tree_entries digest (at p)

  abbrev Here : Path → Group → Type 0
  Here top g = (g.1 ≡ at (top ++ g.0 ∷ [])) × (g.1 ≢ [])

  -- ---- the trees are those of the directories

  through : (top : Path) (c : List ℕ) (ps : List Path)
      → map (λ p. tree ((top ++ c ∷ []) ++ p)) ps
      ≡ map (λ p. tree (top ++ p)) (map (λ p. c ∷ p) ps)
  through top c [] = refl
  through top c (p ∷ ps) =
      let here = ap tree (append_assoc top (c ∷ []) p) in
      let rest = through top c ps in λ i. here i ∷ rest i

  abbrev Same : ℕ → Path → Group → Type 0
  Same n top g =
      trees_within digest n g.1 ≡ map (λ p. tree ((top ++ g.0 ∷ []) ++ p)) (dirs n g.1)

  same_group : (n : ℕ) (top : Path) (g : Group) (o : Option Entry) → Same n top g
      → unless_file o (trees_within digest n g.1)
      ≡ map (λ p. tree (top ++ p)) (paths_by o g.0 (dirs n g.1))
  same_group n top g (Some e) h = refl
  same_group n top g None h = h ∙ through top g.0 (dirs n g.1)

  same_groups : (n : ℕ) (top : Path) (gs : Groups) → AllByRecursion (Same n top) gs
      → flat_map (λ g. unless_file (file_of g.1) (trees_within digest n g.1)) gs
      ≡ map (λ p. tree (top ++ p)) (flat_map (paths_of n) gs)
  same_groups n top [] h = refl
  same_groups n top (g ∷ gs) h =
      let here = same_group n top g (file_of g.1) h.0 in
      let rest = same_groups n top gs h.1 in
      append_same _ _ _ _ here rest
      ∙ sym (map-append (λ (p : Path). tree (top ++ p)) (paths_of n g) (flat_map (paths_of n) gs))

  tree_end : (top : Path) → tree top ≡ tree (top ++ [])
  tree_end top = ap tree (sym (append-nil top))

  trees-are : (n : ℕ) (top : Path) → depth_of (at top) ≤ n
      → trees_within digest n (at top) ≡ map (λ p. tree (top ++ p)) (dirs n (at top))
  unfolding trees_within
  trees-are zero top h =
      let last = sym (entries-nil digest (depth_of (at top)) (at top) (omega arith)) ∙ tree_end top in
      λ i. last i ∷ []
  trees-are (suc n) top h =
      let groups =
      same_groups n top (grouped (at top))
      (all-weaker (λ g. Here top g × (depth_of g.1 ≤ n)) (Same n top)
      (λ g k. subst (λ (l : Listed). trees_within digest n l ≡ map (λ p. tree ((top ++ g.0 ∷ []) ++ p)) (dirs n l)) (sym k.0.0)
      (trees-are n (top ++ g.0 ∷ []) (subst (λ (l : Listed). depth_of l ≤ n) k.0.0 k.1)))
      (grouped (at top))
      (all-both (Here top) (λ g. depth_of g.1 ≤ n) (grouped (at top)) (those m top are) (depth-groups (at top) n h))) in
      let last = deeper digest (suc n) (depth_of (at top)) (at top) h (omega arith) ∙ tree_end top in
      append_same _ _ _ _ groups (λ i. last i ∷ [])
      ∙ sym (map-append (λ (p : Path). tree (top ++ p)) (flat_map (paths_of n) (grouped (at top))) ([] ∷ []))

  -- ---- each path is a directory's

  abbrev IsDir : Path → Type 0
  IsDir p = (at p ≢ []) × (file_of (at p) ≡ None)

  abbrev Is : Path → Path → Type 0
  Is top [] = Unit {0}
  Is top (c ∷ p) = IsDir (top ++ c ∷ p)

  is_below : (top : Path) (g : Group) → Here top g → file_of g.1 ≡ None → (p : Path)
      → Is (top ++ g.0 ∷ []) p → Is top (g.0 ∷ p)
  is_below top g k none [] h = (
    subst (λ (l : Listed). l ≢ []) k.0 k.1,
    subst (λ (l : Listed). file_of l ≡ None) k.0 none,
  )
  is_below top g k none (d ∷ p) h = subst IsDir (append_assoc top (g.0 ∷ []) (d ∷ p)) h

  is_group : (top : Path) (g : Group) → Here top g → (o : Option Entry) → file_of g.1 ≡ o
      → (ps : List Path) → AllByRecursion (Is (top ++ g.0 ∷ [])) ps
      → AllByRecursion (Is top) (paths_by o g.0 ps)
  is_group top g k (Some e) is ps h = tt
  is_group top g k None is ps h =
      all-map (λ (p : Path). g.0 ∷ p) (Is top) ps
      (all-weaker (Is (top ++ g.0 ∷ [])) (λ p. Is top (g.0 ∷ p)) (is_below top g k is) ps h)

  is_groups : (n : ℕ) (top : Path) (gs : Groups) → AllByRecursion (Here top) gs
      → AllByRecursion (λ g. AllByRecursion (Is (top ++ g.0 ∷ [])) (dirs n g.1)) gs
      → AllByRecursion (Is top) (flat_map (paths_of n) gs)
  is_groups n top [] k h = tt
  is_groups n top (g ∷ gs) k h =
      all_append (Is top) (paths_of n g) (flat_map (paths_of n) gs)
      (is_group top g k.0 (file_of g.1) refl (dirs n g.1) h.0) (is_groups n top gs k.1 h.1)

  all-are : (n : ℕ) (top : Path) → AllByRecursion (Is top) (dirs n (at top))
  all-are zero top = (tt, tt)
  all-are (suc n) top =
      all_append (Is top) (flat_map (paths_of n) (grouped (at top))) ([] ∷ [])
      (is_groups n top (grouped (at top)) (those m top are)
      (all-weaker (Here top) (λ g. AllByRecursion (Is (top ++ g.0 ∷ [])) (dirs n g.1))
      (λ g k. subst (λ (l : Listed). AllByRecursion (Is (top ++ g.0 ∷ [])) (dirs n l)) (sym k.0) (all-are n (top ++ g.0 ∷ [])))
      (grouped (at top)) (those m top are)))
      (tt, tt)

  -- ---- and each directory is there

  none-below : (top : Path) (c : List ℕ) (p : Path) → depth_of (at top) ≤ 0
      → at (top ++ c ∷ p) ≡ []
  none-below top c p h = sym (cut-cut top (c ∷ p) (listed m)) ∙ no_below c p (at top) h

  some_first : (top : Path) (c : List ℕ) (p : Path) → Is top (c ∷ p) → at (top ++ c ∷ []) ≢ []
  some_first top c p k none =
      k.0 (ap at (sym (append_assoc top (c ∷ []) p))
      ∙ sym (cut-cut (top ++ c ∷ []) p (listed m)) ∙ ap (cut p) none)

  none_first : (top : Path) (c : List ℕ) (p : Path) → Is top (c ∷ p)
      → file_of (at (top ++ c ∷ [])) ≡ None
  none_first top c [] k = k.1
  none_first top c (d ∷ p) k = by (file_of (at (top ++ c ∷ []))) refl
    where
      by : (o : Option Entry) → file_of (at (top ++ c ∷ [])) ≡ o → o ≡ None
      by None is = refl
      by (Some e) is =
          let flat = depth-file (top ++ c ∷ []) (listed m) e are is in
          absurd (k.0 (ap at (sym (append_assoc top (c ∷ []) (d ∷ p))) ∙ none-below (top ++ c ∷ []) d p (omega (arith, flat))))

  is_next : (top : Path) (c : List ℕ) (p : Path) → Is top (c ∷ p) → Is (top ++ c ∷ []) p
  is_next top c [] k = tt
  is_next top c (d ∷ p) k = subst IsDir (sym (append_assoc top (c ∷ []) (d ∷ p))) k

  found : (n : ℕ) (top p : Path) → depth_of (at top) ≤ n → Is top p
      → Contains (dirs n (at top)) p
  found zero top [] h k = (0, omega arith, refl)
  found zero top (c ∷ p) h k = absurd (k.0 (none-below top c p h))
  found (suc n) top [] h k =
      Contains-append_right (flat_map (paths_of n) (grouped (at top))) ([] ∷ []) [] (0, omega arith, refl)
  found (suc n) top (c ∷ p) h k =
      let group : Contains (grouped (at top)) (c, at (top ++ c ∷ [])) = ((by-component m top are).files c (at (top ++ c ∷ []))).1 (refl, some_first top c p k) in
      let less : depth_of (at (top ++ c ∷ [])) ≤ n =
      All-contains (λ g. depth_of g.1 ≤ n) (grouped (at top)) (c, at (top ++ c ∷ []))
      (All-from_recursion (λ g. depth_of g.1 ≤ n) (grouped (at top)) (depth-groups (at top) n h)) group in
      Contains-append_left (flat_map (paths_of n) (grouped (at top))) ([] ∷ []) (c ∷ p)
      (in_groups n (grouped (at top)) (c, at (top ++ c ∷ [])) group (none_first top c p k) p
      (found n (top ++ c ∷ []) p less (is_next top c p k)))

  ordered : (n : ℕ) (top : Path) → Ordered (dirs n (at top))
  ordered zero top = (tt, tt)
  ordered (suc n) top =
      ordered_append (flat_map (paths_of n) (grouped (at top))) ([] ∷ [])
      (ordered_groups n (grouped (at top)) (rise-cut top (listed m) are)
      (all-weaker (Here top) (λ g. g.1 ≢ []) (λ g k. k.1) (grouped (at top)) (those m top are))
      (all-weaker (Here top) (λ g. Ordered (dirs n g.1))
      (λ g k. subst (λ (l : Listed). Ordered (dirs n l)) (sym k.0) (ordered n (top ++ g.0 ∷ [])))
      (grouped (at top)) (those m top are)))
      (tt, tt) (all_before_root n (grouped (at top)))

  -- ---- a directory is what `entry` shows as one

  shown : (fs : Listed) → fs ≢ [] → file_of fs ≡ None
      → entry_or digest false fs (file_of fs) ≡ Some (directory digest fs)
  shown [] some none = absurd (some refl)
  shown (f ∷ fs) some none = ap (entry_or digest false (f ∷ fs)) none

  shows : (fs : Listed) (o : Option Entry) → file_of fs ≡ o
      → AllByRecursion (λ f. f.1.mode ≢ mode.Directory) fs
      → entry_or digest false fs o ≡ Some (directory digest fs) → (fs ≢ []) × (file_of fs ≡ None)
  shows [] None is modes same = cc same
  shows [] (Some e) is modes same = cc is
  shows (f ∷ fs) None is modes same = ((λ none. cc none), is)
  shows (([], x) ∷ fs) (Some e) is modes same =
      absurd (modes.0 (ap (λ (y : Entry). y.mode) (some_is x e is ∙ some_is e (directory digest (([], x) ∷ fs)) same)))
  shows (((d ∷ q), x) ∷ fs) (Some e) is modes same = cc is

  entry_there : (q : Path) → is_root q ≡ false
      → entry_at digest m q ≡ entry_or digest false (at q) (file_of (at q))
  entry_there q apart = ap (λ b. entry_or digest b (at q) (file_of (at q))) apart

  modes-at : (q : Path) → AllByRecursion (λ f. f.1.mode ≢ mode.Directory) (at q)
  modes-at q =
      cut-all (λ f. f.1.mode ≢ mode.Directory) q (listed m)
      (all-weaker IsFile (λ f. f.1.mode ≢ mode.Directory) (λ f k. k.mode) (listed m) are.each)

  abbrev Shown : Path → Path → Type 0
  Shown top p = (p ≡ []) ⊎ (entry_at digest m (top ++ p) ≡ Some (directory digest (at (top ++ p))))

  to_shown : (top p : Path) → Is top p → Shown top p
  to_shown top [] k = inl refl
  to_shown top (c ∷ p) k =
      inr (entry_there (top ++ c ∷ p) (not_root top c p) ∙ shown (at (top ++ c ∷ p)) k.0 k.1)

  from_shown : (top p : Path) → Shown top p → Is top p
  from_shown top [] s = tt
  from_shown top (c ∷ p) (inl is) = cc is
  from_shown top (c ∷ p) (inr is) =
      shows (at (top ++ c ∷ p)) (file_of (at (top ++ c ∷ p))) refl (modes-at (top ++ c ∷ p))
      (sym (entry_there (top ++ c ∷ p) (not_root top c p)) ∙ is)

-- ---- the law

pub by-directory : (digest : List ℕ → List ℕ) (m : FileMap) (top : Path) → AreFiles (listed m)
    → AreByDirectory digest m top (nested_trees digest (files_at m top))
by-directory digest m top are =
    record {
      paths = dirs (depth_of (files_at m top)) (files_at m top);
      are = trees-are digest m are (depth_of (files_at m top)) top (omega arith);
      directories = λ p. (
        λ held. to_shown digest m are top p
            (All-contains (Is digest m are top) (dirs (depth_of (files_at m top)) (files_at m top)) p
            (All-from_recursion (Is digest m are top) (dirs (depth_of (files_at m top)) (files_at m top)) (all-are digest m are (depth_of (files_at m top)) top)) held),
        λ s. found digest m are (depth_of (files_at m top)) top p (omega arith) (from_shown digest m are top p s),
      );
      in_order = pairs_of (dirs (depth_of (files_at m top)) (files_at m top)) (ordered digest m are (depth_of (files_at m top)) top);
    }
