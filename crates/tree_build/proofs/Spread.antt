-- What entries list, taken by first components, is each entry's part.
use Rattle.std.proofs.Common.{◌≡◌, ◌≢◌, ℕ, zero, suc, ◌≤◌, false, List, [], ◌∷◌, ◌++◌, map, refl, sym, ap, ◌∙◌, subst, arith}
use Rattle.std.specs.List.{AllByRecursion, flat_map}
use Rattle.std.specs.Str.{bytes_eq}
use Rattle.std.proofs.lemmas.List.{append-nil}
use Rattle.std.proofs.lemmas.Slice.Eq.{bytes_eq-Decides}
use Rattle.git_model.specs.Tree.{TreeEntry}
use Rattle.git_paths.proofs.Cases.{by_cases}
use Rattle.file_maps.specs.FileMap.{Path, Listed}
use Rattle.file_maps.specs.Edits.{cut, moved}
use Rattle.file_maps.specs.Trees.{Groups, grouped, file_of, depth_of, entries_within, trees_within, nested_trees, unless_file}
use Rattle.file_maps.specs.Below.{group_trees}
use Rattle.file_maps.proofs.Lists.{cut-append}
use Rattle.file_maps.proofs.Groups.{itself}
use Rattle.file_maps.proofs.Regrouped.{BeginsOther, moved-grouped}
use Rattle.file_maps.proofs.ByComponent.{cut-cut}
use Rattle.file_maps.proofs.TreeOf.{depth-groups, no_groups, deeper, within-groups, entry_of}
use Rattle.tree_build.specs.Parts.{spread, part_of, AreParts}

begins : (c : List ℕ) (parts : Groups) → AllByRecursion (λ h. c ≢ h.0) parts → BeginsOther c parts
begins c [] h = tt
begins c (g ∷ parts) h = h.0

-- parts with files, under names of their own, are found again
pub grouped-spread : (parts : Groups) → AreParts parts → grouped (spread parts) ≡ parts
grouped-spread [] h = refl
grouped-spread ((c, []) ∷ parts) h = absurd (h.0 refl)
grouped-spread ((c, (f ∷ fs)) ∷ parts) h =
    let rest = grouped-spread parts h.2 in
    moved-grouped c f fs (spread parts)
    (subst (λ (gs : Groups). BeginsOther c gs) (sym rest) (begins c parts h.1))
    ∙ ap (λ (gs : Groups). (c, f ∷ fs) ∷ gs) rest

-- ---- the files of one entry

differ : (c d : List ℕ) → c ≢ d → bytes_eq c d ≡ false
differ c d ne =
    by_cases (bytes_eq c d) (λ yea. absurd (ne ((bytes_eq-Decides c d).0 yea))) (λ nay. nay)

cut-own : (c : List ℕ) (fs : Listed) → cut (c ∷ []) (moved (c ∷ []) fs) ≡ fs
cut-own c [] = refl
cut-own c (f ∷ fs) = rw (itself c) (ap (λ (l : Listed). f ∷ l) (cut-own c fs))

cut-other : (c d : List ℕ) → bytes_eq c d ≡ false → (fs : Listed)
    → cut (c ∷ []) (moved (d ∷ []) fs) ≡ []
cut-other c d nay [] = refl
cut-other c d nay (f ∷ fs) = rw nay (cut-other c d nay fs)

cut-none : (c : List ℕ) (parts : Groups) → AllByRecursion (λ h. c ≢ h.0) parts
    → cut (c ∷ []) (spread parts) ≡ []
cut-none c [] h = refl
cut-none c (g ∷ parts) h =
    cut-append (c ∷ []) (moved (g.0 ∷ []) g.1) (spread parts)
    ∙ ap (λ (l : Listed). l ++ cut (c ∷ []) (spread parts))
    (cut-other c g.0 (differ c g.0 h.0) g.1)
    ∙ cut-none c parts h.1

cut-first : (c : List ℕ) (parts : Groups) → AreParts parts
    → cut (c ∷ []) (spread parts) ≡ part_of c parts
cut-first c [] h = refl
cut-first c (g ∷ parts) h =
    cut-append (c ∷ []) (moved (g.0 ∷ []) g.1) (spread parts)
    ∙ by_cases (bytes_eq c g.0)
    (λ yea.
    let same : c ≡ g.0 = (bytes_eq-Decides c g.0).0 yea in
    rw yea
    (subst
    (λ (d : List ℕ). cut (d ∷ []) (moved (g.0 ∷ []) g.1) ++ cut (d ∷ []) (spread parts) ≡ g.1)
    (sym same)
    (ap (λ (l : Listed). l ++ cut (g.0 ∷ []) (spread parts)) (cut-own g.0 g.1)
    ∙ ap (λ (l : Listed). g.1 ++ l) (cut-none g.0 parts h.1)
    ∙ append-nil g.1)))
    (λ nay.
    rw nay
    (ap (λ (l : Listed). l ++ cut (c ∷ []) (spread parts)) (cut-other c g.0 nay g.1)
    ∙ cut-first c parts h.2))

-- what is below a path is below its rest in the part of its first component
pub cut-spread : (c : List ℕ) (rest : Path) (parts : Groups) → AreParts parts
    → cut (c ∷ rest) (spread parts) ≡ cut rest (part_of c parts)
cut-spread c rest parts h =
    sym (cut-cut (c ∷ []) rest (spread parts)) ∙ ap (cut rest) (cut-first c parts h)

-- ---- more components than the files have change no tree

module _ (digest : List ℕ → List ℕ) where
  same_trees : (n k : ℕ)
      → ((fs : Listed) → depth_of fs ≤ n → depth_of fs ≤ k → trees_within digest n fs ≡ trees_within digest k fs)
      → (gs : Groups) → AllByRecursion (λ g. depth_of g.1 ≤ n) gs
      → AllByRecursion (λ g. depth_of g.1 ≤ k) gs
      → flat_map (group_trees digest n) gs ≡ flat_map (group_trees digest k) gs
  same_trees n k same [] p q = refl
  same_trees n k same (g ∷ gs) p q =
      ap (λ (t : List (List TreeEntry)). unless_file (file_of g.1) t ++ flat_map (group_trees digest n) gs) (same g.1 p.0 q.0)
      ∙ ap (λ (t : List (List TreeEntry)). group_trees digest k g ++ t)
      (same_trees n k same gs p.1 q.1)

  trees-nil : (fs : Listed) → trees_within digest 0 fs ≡ entries_within digest 0 fs ∷ []
  unfolding trees_within entries_within
  trees-nil fs = refl

  pub trees-deeper : (n k : ℕ) (fs : Listed) → depth_of fs ≤ n → depth_of fs ≤ k
      → trees_within digest n fs ≡ trees_within digest k fs
  unfolding trees_within
  trees-deeper zero zero fs a b = refl
  trees-deeper zero (suc k) fs a b =
      trees-nil fs ∙ ap (λ (es : List TreeEntry). es ∷ []) (deeper digest zero (suc k) fs a b)
      ∙ ap (λ (gs : Groups). flat_map (group_trees digest k) gs ++ entries_within digest (suc k) fs ∷ []) (sym (no_groups fs a))
  trees-deeper (suc n) zero fs a b =
      ap (λ (gs : Groups). flat_map (group_trees digest n) gs ++ entries_within digest (suc n) fs ∷ []) (no_groups fs b)
      ∙ ap (λ (es : List TreeEntry). es ∷ []) (deeper digest (suc n) zero fs a b)
      ∙ sym (trees-nil fs)
  trees-deeper (suc n) (suc k) fs a b =
      ap (λ (t : List (List TreeEntry)). t ++ entries_within digest (suc n) fs ∷ [])
      (same_trees n k (λ l p q. trees-deeper n k l p q) (grouped fs) (depth-groups fs n a)
      (depth-groups fs k b))
      ∙ ap (λ (es : List TreeEntry). flat_map (group_trees digest k) (grouped fs) ++ es ∷ [])
      (deeper digest (suc n) (suc k) fs a b)

  -- ---- the trees of files, entry by entry

  -- the trees of a part: none of a file, and else all that its files make
  abbrev pub own_trees : List ℕ × Listed → List (List TreeEntry)
  own_trees g = unless_file (file_of g.1) (nested_trees digest g.1)

  own_all : (n : ℕ) (gs : Groups) → AllByRecursion (λ g. depth_of g.1 ≤ n) gs
      → flat_map (group_trees digest n) gs ≡ flat_map own_trees gs
  own_all n [] h = refl
  own_all n (g ∷ gs) h =
      ap (λ (t : List (List TreeEntry)). unless_file (file_of g.1) t ++ flat_map (group_trees digest n) gs)
      (trees-deeper n (depth_of g.1) g.1 h.0 (omega arith))
      ∙ ap (λ (t : List (List TreeEntry)). own_trees g ++ t) (own_all n gs h.1)

  nested_by : (n : ℕ) (fs : Listed) → depth_of fs ≤ n
      → trees_within digest n fs ≡ flat_map own_trees (grouped fs) ++ map (entry_of digest) (grouped fs) ∷ []
  unfolding trees_within
  nested_by zero fs h =
      ap (λ (es : List TreeEntry). es ∷ [])
      (ap (λ (gs : Groups). map (entry_of digest) gs) (sym (no_groups fs h)))
      ∙ ap (λ (gs : Groups). flat_map own_trees gs ++ map (entry_of digest) (grouped fs) ∷ [])
      (sym (no_groups fs h))
  nested_by (suc n) fs h =
      ap (λ (t : List (List TreeEntry)). t ++ entries_within digest (suc n) fs ∷ [])
      (own_all n (grouped fs) (depth-groups fs n h))
      ∙ ap (λ (es : List TreeEntry). flat_map own_trees (grouped fs) ++ es ∷ [])
      (within-groups digest (suc n) fs h)

  pub nested-parts : (parts : Groups) → AreParts parts
      → nested_trees digest (spread parts) ≡ flat_map own_trees parts ++ map (entry_of digest) parts ∷ []
  nested-parts parts h =
      nested_by (depth_of (spread parts)) (spread parts) (omega arith)
      ∙ ap (λ (gs : Groups). flat_map own_trees gs ++ map (entry_of digest) gs ∷ [])
      (grouped-spread parts h)

  pub entries-parts : (parts : Groups) → AreParts parts
      → entries_within digest (depth_of (spread parts)) (spread parts) ≡ map (entry_of digest) parts
  entries-parts parts h =
      within-groups digest (depth_of (spread parts)) (spread parts) (omega arith)
      ∙ ap (λ (gs : Groups). map (entry_of digest) gs) (grouped-spread parts h)
