-- Files by their first components are the files at or below each one.
use Rattle.std.proofs.Common.{◌≡◌, ◌≢◌, ℕ, List, [], ◌∷◌, ◌++◌}
use Rattle.std.proofs.Common.{refl, sym, ap, ◌∙◌, subst, arith}
use Rattle.std.specs.Prelude.{AllPairs, Contains, if◌then◌else◌}
use Rattle.std.specs.List.{AllByRecursion}
use Rattle.std.specs.Str.{bytes_eq}
use Rattle.std.proofs.lemmas.Bool.{true≢false}
use Rattle.std.proofs.lemmas.List.{append-nil}
use Rattle.std.proofs.lemmas.List.Elements.{All-contains, All-from_recursion, All-tail}
use Rattle.std.proofs.lemmas.List.Elements.{Contains-append_right}
use Rattle.std.proofs.lemmas.List.Kept.{AllPairs-cons}
use Rattle.std.proofs.lemmas.Slice.Eq.{bytes_eq-Decides}
use Rattle.git_paths.specs.Paths.{IsComponent, IsPath, strip_prefix}
use Rattle.git_paths.proofs.Cases.{by_cases}
use Rattle.file_maps.specs.declared.entry.Entry.{Entry}
use Rattle.file_maps.specs.FileMap.{Path, Listed, FileMap, listed, IsFile, AreFiles}
use Rattle.file_maps.specs.Edits.{cut, cut_one, files_at}
use Rattle.file_maps.specs.Trees.{Groups, grouped, add_path, add_file}
use Rattle.file_maps.specs.ByComponent.{IsByFirstComponent}
use Rattle.file_maps.proofs.Apart.{cut-all, all-weaker, all-both}
use Rattle.file_maps.proofs.Rising.{Rises, GroupsRise, OfFirst, grouped-first, groups-rise}
use Rattle.file_maps.proofs.Fits.{order-of, apart-of}
use Rattle.file_maps.proofs.Cutting.{turns-cut}

-- ---- a path in two steps

after_more : (top rest q : Path) (e : Entry) (fs : Listed)
    → cut rest (cut_one (strip_prefix top q) e fs) ≡ cut_one (strip_prefix (top ++ rest) q) e (cut rest fs)
after_more [] rest q e fs = refl
after_more (c ∷ top) rest [] e fs = refl
after_more (c ∷ top) rest (d ∷ q) e fs =
    by_cases (bytes_eq c d) (λ yea. rw yea (after_more top rest q e fs)) (λ nay. rw nay refl)

pub cut-cut : (top rest : Path) (fs : Listed) → cut rest (cut top fs) ≡ cut (top ++ rest) fs
cut-cut top rest [] = refl
cut-cut top rest (f ∷ fs) =
    after_more top rest f.0 f.1 (cut top fs)
    ∙ ap (cut_one (strip_prefix (top ++ rest) f.0) f.1) (cut-cut top rest fs)

-- ---- all groups of one component

-- their files, one group's after another's
abbrev gathered : List ℕ → Groups → Listed
gathered c [] = []
gathered c (g ∷ groups) = if bytes_eq c g.0 then g.1 ++ gathered c groups else gathered c groups

joins : (c d : List ℕ) (q : Path) (e : Entry) (fs rest : Listed)
    → (if bytes_eq c d then ((q, e) ∷ fs) ++ rest else rest)
    ≡ cut_one (strip_prefix (c ∷ []) (d ∷ q)) e (if bytes_eq c d then fs ++ rest else rest)
joins c d q e fs rest = by_cases (bytes_eq c d) (λ yea. rw yea refl) (λ nay. rw nay refl)

begins : (c d : List ℕ) (q : Path) (e : Entry) (rest : Listed)
    → (if bytes_eq c d then ((q, e) ∷ []) ++ rest else rest) ≡ cut_one (strip_prefix (c ∷ []) (d ∷ q)) e rest
begins c d q e rest = by_cases (bytes_eq c d) (λ yea. rw yea refl) (λ nay. rw nay refl)

gathered_file : (c d : List ℕ) (q : Path) (e : Entry) (groups : Groups)
    → gathered c (add_file d (q, e) groups) ≡ cut_one (strip_prefix (c ∷ []) (d ∷ q)) e (gathered c groups)
gathered_file c d q e [] = begins c d q e []
gathered_file c d q e (g ∷ groups) =
    by_cases (bytes_eq d g.0)
    (λ yea. rw yea
    (joins c d q e g.1 (gathered c groups)
    ∙ ap
    (λ (x : List ℕ). cut_one (strip_prefix (c ∷ []) (d ∷ q)) e (if bytes_eq c x then g.1 ++ gathered c groups else gathered c groups))
    ((bytes_eq-Decides d g.0).0 yea)))
    (λ nay. rw nay (begins c d q e (gathered c (g ∷ groups))))

gathered_path : (c : List ℕ) (p : Path) (e : Entry) (groups : Groups)
    → gathered c (add_path p e groups) ≡ cut_one (strip_prefix (c ∷ []) p) e (gathered c groups)
gathered_path c [] e groups = refl
gathered_path c (d ∷ q) e groups = gathered_file c d q e groups

gathered-grouped : (c : List ℕ) (fs : Listed) → gathered c (grouped fs) ≡ cut (c ∷ []) fs
gathered-grouped c [] = refl
gathered-grouped c (f ∷ fs) =
    gathered_path c f.0 f.1 (grouped fs)
    ∙ ap (cut_one (strip_prefix (c ∷ []) f.0) f.1) (gathered-grouped c fs)

-- ---- where no component has two groups

abbrev AreDistinct : Groups → Type 0
AreDistinct [] = Unit {0}
AreDistinct (g ∷ groups) = AllByRecursion (λ h. g.0 ≢ h.0) groups × AreDistinct groups

distinct-rise : (groups : Groups) → GroupsRise groups → AreDistinct groups
distinct-rise [] h = tt
distinct-rise (g ∷ groups) h =
    (all-weaker (Rises g) (λ k. g.0 ≢ k.0) (λ k r. r.1) groups h.0, distinct-rise groups h.1)

pairs : (groups : Groups) → AreDistinct groups → AllPairs (λ g h. g.0 ≢ h.0) groups
pairs [] h i j d lt within = absurd (omega arith)
pairs (g ∷ groups) h i j d lt within =
    AllPairs-cons (λ a b. a.0 ≢ b.0) g groups (All-from_recursion (λ k. g.0 ≢ k.0) groups h.0)
    (pairs groups h.1)
    i j d lt within

none_of : (c : List ℕ) (groups : Groups) → AllByRecursion (λ h. c ≢ h.0) groups
    → gathered c groups ≡ []
none_of c [] h = refl
none_of c (g ∷ groups) h =
    by_cases (bytes_eq c g.0)
    (λ yea. absurd (h.0 ((bytes_eq-Decides c g.0).0 yea))) (λ nay. rw nay (none_of c groups h.1))

-- a group of the component, and no other
here : (c : List ℕ) (g : List ℕ × Listed) (groups : Groups) → c ≡ g.0
    → AllByRecursion (λ h. g.0 ≢ h.0) groups
    → g.1 ≡ gathered c (g ∷ groups)
here c g groups same h =
    rw ((bytes_eq-Decides c g.0).1 same)
    (sym (append-nil g.1)
    ∙ ap (λ (l : Listed). g.1 ++ l) (sym (none_of c groups (subst (λ (x : List ℕ). AllByRecursion (λ h. x ≢ h.0) groups) (sym same) h))))

later : (c : List ℕ) (g : List ℕ × Listed) (groups : Groups) → g.0 ≢ c
    → gathered c groups ≡ gathered c (g ∷ groups)
later c g groups other =
    by_cases (bytes_eq c g.0)
    (λ yea. absurd (other (sym ((bytes_eq-Decides c g.0).0 yea)))) (λ nay. rw nay refl)

each : (groups : Groups) → AreDistinct groups
    → AllByRecursion (λ g. g.1 ≡ gathered g.0 groups) groups
each [] h = tt
each (g ∷ groups) h = (
  here g.0 g groups refl h.0,
  all-weaker (λ k. (k.1 ≡ gathered k.0 groups) × (g.0 ≢ k.0)) (λ k. k.1 ≡ gathered k.0 (g ∷ groups))
      (λ k both. both.0 ∙ later k.0 g groups both.1) groups
      (all-both (λ k. k.1 ≡ gathered k.0 groups) (λ k. g.0 ≢ k.0) groups (each groups h.1) h.0),
)

found : (c : List ℕ) (groups : Groups) → AreDistinct groups → gathered c groups ≢ []
    → Contains groups (c, gathered c groups)
found c [] h some = absurd (some refl)
found c (g ∷ groups) h some =
    by_cases (bytes_eq c g.0)
    (λ yea. let same : c ≡ g.0 = (bytes_eq-Decides c g.0).0 yea in
    (0, omega arith, λ i. (sym same i, here c g groups same h.0 i)))
    (λ nay. let other : g.0 ≢ c = λ same. true≢false (sym ((bytes_eq-Decides c g.0).1 (sym same)) ∙ nay) in
    let skip = later c g groups other in
    subst (λ (l : Listed). Contains (g ∷ groups) (c, l)) skip
    (Contains-append_right (g ∷ []) groups (c, gathered c groups) (found c groups h.1 (λ none. some (sym skip ∙ none)))))

-- ---- the law

path_end : (top q : Path) → IsPath (top ++ q) → IsPath q
path_end [] q h = h
path_end (c ∷ top) q h = path_end top q (All-tail IsComponent c (top ++ q) h)

some_files : (g : List ℕ × Listed) → OfFirst (λ p. Unit {0}) g → g.1 ≢ []
some_files (c, []) h is = absurd h
some_files (c, (f ∷ fs)) h is = cc is

trivial : (fs : Listed) → AllByRecursion (λ f. Unit {0}) fs
trivial [] = tt
trivial (f ∷ fs) = (tt, trivial fs)

pub rise-cut : (top : Path) (fs : Listed) → AreFiles fs → GroupsRise (grouped (cut top fs))
rise-cut top fs h =
    let turns = turns-cut top fs h in
    let whole = cut-all (λ f. IsPath f.0) top fs (all-weaker IsFile (λ f. IsPath f.0) (λ f k. k.path) fs h.each) in
    groups-rise (cut top fs)
    (all-weaker (λ f. IsPath (top ++ f.0)) (λ f. IsPath f.0) (λ f k. path_end top f.0 k) (cut top fs) whole)
    (order-of (cut top fs) turns) (apart-of (cut top fs) turns)

module _ (m : FileMap) (top : Path) (are : AreFiles (listed m)) where
  abbrev pub groups : Groups
  groups = grouped (files_at m top)

  distinct : AreDistinct groups
  distinct = distinct-rise groups (rise-cut top (listed m) are)

  gathered-is : (c : List ℕ) → gathered c groups ≡ files_at m (top ++ c ∷ [])
  gathered-is c = gathered-grouped c (files_at m top) ∙ cut-cut top (c ∷ []) (listed m)

  pub those : AllByRecursion (λ g. (g.1 ≡ files_at m (top ++ g.0 ∷ [])) × (g.1 ≢ [])) groups
  those =
      all-both (λ g. g.1 ≡ files_at m (top ++ g.0 ∷ [])) (λ g. g.1 ≢ []) groups
      (all-weaker (λ g. g.1 ≡ gathered g.0 groups) (λ g. g.1 ≡ files_at m (top ++ g.0 ∷ [])) (λ g is. is ∙ gathered-is g.0)
      groups (each groups distinct))
      (all-weaker (OfFirst (λ p. Unit {0})) (λ g. g.1 ≢ []) some_files groups
      (grouped-first (λ p. Unit {0}) (files_at m top) (trivial (files_at m top))))

  pub by-component : IsByFirstComponent m top groups
  by-component = record {
    files = λ c files. (
      λ at. All-contains (λ g. (g.1 ≡ files_at m (top ++ g.0 ∷ [])) × (g.1 ≢ [])) groups (c, files)
          (All-from_recursion (λ g. (g.1 ≡ files_at m (top ++ g.0 ∷ [])) × (g.1 ≢ [])) groups those) at,
      λ is.
          let all : files ≡ gathered c groups = is.0 ∙ sym (gathered-is c) in
          subst (λ (l : Listed). Contains groups (c, l)) (sym all)
          (found c groups distinct (λ none. is.1 (all ∙ none))),
    );
    once = pairs groups distinct;
  }
