-- What is found in several lists of names.
use Rattle.std.proofs.Common.{◌≡◌, ℕ, ◌+◌, ◌≤◌, ◌<◌, Bool, subst, IsPermutation, true, false, List, [], ◌∷◌, ◌++◌, length, get_or, take, drop, filter, refl, sym, ap, ◌∙◌, arith}
use Rattle.std.proofs.lemmas.List.{append-nil, append_assoc, take_all, take_more, take-append-drop, take-append-le, drop-append-le, drop_all, length-take-le}
use Rattle.std.proofs.lemmas.List.Sorted.{IsPermutation-refl, IsPermutation-append_right}
use Rattle.std.proofs.lemmas.List.Concat.{flat_map-append}
use Rattle.std.proofs.lemmas.List.Elements.{filter-append}
use Rattle.name_index.specs.declared.found.Between.{Between}
use Rattle.name_index.specs.declared.found.Between.TheVariants as found
use Rattle.name_index.specs.Index.{IsIndex, Merges, is_between, names_of, committed_of, added_of, two_of, with_more}

pub with_more-append : (b : Between) (xs ys : List (List ℕ))
    → with_more b (xs ++ ys) ≡ with_more (with_more b xs) ys
with_more-append b [] ys = refl
with_more-append found.None (x ∷ []) [] = refl
with_more-append found.None (x ∷ []) (y ∷ ys) = refl
with_more-append found.None (x ∷ z ∷ xs) [] = refl
with_more-append found.None (x ∷ z ∷ xs) (y ∷ ys) = refl
with_more-append (found.One only) (x ∷ xs) [] = refl
with_more-append (found.One only) (x ∷ xs) (y ∷ ys) = refl
with_more-append found.Many (x ∷ xs) [] = refl
with_more-append found.Many (x ∷ xs) (y ∷ ys) = refl

pub two_of-is : (xs : List (List ℕ)) → two_of xs ≡ with_more found.None xs
two_of-is [] = refl
two_of-is (x ∷ xs) = refl

pub two_of-append : (xs ys : List (List ℕ)) → two_of (xs ++ ys) ≡ with_more (two_of xs) ys
two_of-append xs ys =
    two_of-is (xs ++ ys) ∙ with_more-append found.None xs ys
    ∙ ap (λ b. with_more b ys) (sym (two_of-is xs))

-- the names of one run more
pub names_of-more : (runs : List (List (List ℕ))) (i : ℕ) (d : List (List ℕ)) → i < length runs
    → names_of (take (i + 1) runs) ≡ names_of (take i runs) ++ get_or runs i d
names_of-more runs i d lt =
    ap names_of (take_more runs i d lt)
    ∙ flat_map-append (λ (run : List (List ℕ)). run) (take i runs) (get_or runs i d ∷ [])
    ∙ ap (λ ns. names_of (take i runs) ++ ns) (append-nil (get_or runs i d))

-- committed or not, the names are all
pub all_names : (runs : List (List (List ℕ))) (few : List (List ℕ)) (base : ℕ) (closed : Bool)
    → IsIndex runs base closed
    → names_of (take (length runs) runs) ++ few
    ≡ committed_of runs few base closed ++ added_of runs few base closed
all_names runs few base true h =
    rw (h.all refl) (sym (append-nil (names_of (take (length runs) runs) ++ few)))
all_names runs few base false h =
    ap (λ rs. names_of rs ++ few) (take_all (length runs) runs (omega arith) ∙ sym (take-append-drop base runs))
    ∙ ap (λ ns. ns ++ few) (flat_map-append (λ (run : List (List ℕ)). run) (take base runs) (drop base runs))
    ∙ append_assoc (names_of (take base runs)) (names_of (drop base runs)) few

-- what is found in all runs, and among the last few
pub found_all : (first last : List ℕ) (runs : List (List (List ℕ))) (few : List (List ℕ))
    → with_more (two_of (filter (is_between first last) (names_of runs)))
    (filter (is_between first last) few)
    ≡ two_of (filter (is_between first last) (names_of runs ++ few))
found_all first last runs few =
    sym (two_of-append (filter (is_between first last) (names_of runs)) (filter (is_between first last) few))
    ∙ ap two_of (sym (filter-append (is_between first last) (names_of runs) few))

-- names in another order, where these were the fields
abbrev pub Same : List (List (List ℕ)) → List (List ℕ) → ℕ → Bool → List (List (List ℕ))
    → List (List ℕ) → ℕ → Bool → Type 0
Same runs few base closed runs' few' base' closed' =
    IsPermutation (committed_of runs few base closed) (committed_of runs' few' base' closed')
    × IsPermutation (added_of runs few base closed) (added_of runs' few' base' closed')

names_of-append : (xs ys : List (List (List ℕ))) → names_of (xs ++ ys) ≡ names_of xs ++ names_of ys
names_of-append xs ys = flat_map-append (λ (run : List (List ℕ)). run) xs ys

-- the last ones of some runs, and a few names, as one run
one_run : (front back : List (List (List ℕ))) (run few : List (List ℕ))
    → IsPermutation (names_of back ++ few) run
    → IsPermutation (names_of (front ++ back) ++ few) (names_of (front ++ run ∷ []))
one_run front back run few h =
    rw (names_of-append front back, names_of-append front (run ∷ []), append-nil run, append_assoc (names_of front) (names_of back) few)
    (IsPermutation-append_right (names_of front) (names_of back ++ few) run h)

pub same_committed : (runs runs' : List (List (List ℕ))) (few : List (List ℕ)) (base : ℕ)
    → IsIndex runs base true → Merges 0 runs runs' few
    → Same runs few base true runs' [] (length runs') false
same_committed runs runs' few base h m =
    let all : take base runs ≡ take m.kept runs ++ drop m.kept runs =
    ap (λ n. take n runs) (h.all refl) ∙ take_all (length runs) runs (omega arith)
    ∙ sym (take-append-drop m.kept runs) in
    let each : take (length runs') runs' ≡ take m.kept runs ++ m.run ∷ [] =
    take_all (length runs') runs' (omega arith) ∙ m.runs in
    let none : drop (length runs') runs' ≡ [] = drop_all (length runs') runs' (omega arith) in (
      rw (all, each) (one_run (take m.kept runs) (drop m.kept runs) m.run few m.has),
      rw none (IsPermutation-refl []),
    )

pub same_open : (runs runs' : List (List (List ℕ))) (few : List (List ℕ)) (base : ℕ)
    → Merges base runs runs' few → Same runs few base false runs' [] base false
same_open runs runs' few base m =
    let long : length (take m.kept runs) ≡ m.kept = length-take-le m.kept runs m.within in
    let le : base ≤ length (take m.kept runs) = let f = m.from in omega (arith, long, f) in
    let front : take base runs' ≡ take base (take m.kept runs) =
    ap (take base) m.runs ∙ take-append-le base (take m.kept runs) (m.run ∷ []) le in
    let first : take base runs ≡ take base (take m.kept runs) =
    ap (take base) (sym (take-append-drop m.kept runs))
    ∙ take-append-le base (take m.kept runs) (drop m.kept runs) le in
    let back : drop base runs' ≡ drop base (take m.kept runs) ++ m.run ∷ [] =
    ap (drop base) m.runs ∙ drop-append-le base (take m.kept runs) (m.run ∷ []) le in
    let last : drop base runs ≡ drop base (take m.kept runs) ++ drop m.kept runs =
    ap (drop base) (sym (take-append-drop m.kept runs))
    ∙ drop-append-le base (take m.kept runs) (drop m.kept runs) le in (
      rw (first, front) (IsPermutation-refl (names_of (take base (take m.kept runs)))),
      rw (last, back, append-nil (names_of (drop base (take m.kept runs) ++ m.run ∷ [])))
          (one_run (drop base (take m.kept runs)) (drop m.kept runs) m.run few m.has),
    )

pub reorders_committed : (runs runs' : List (List (List ℕ))) (few few' : List (List ℕ))
    (base base' : ℕ) (closed closed' : Bool)
    → IsIndex runs base closed → Merges 0 runs runs' few → closed ≡ true → few' ≡ []
    → base' ≡ length runs' → closed' ≡ false → Same runs few base closed runs' few' base' closed'
reorders_committed runs runs' few few' base base' closed closed' h m is none all fresh =
    rw (is, none, all, fresh)
    (same_committed runs runs' few base (subst (IsIndex runs base) is h) m)

pub reorders_open : (runs runs' : List (List (List ℕ))) (few few' : List (List ℕ)) (base : ℕ)
    (closed : Bool)
    → Merges base runs runs' few → closed ≡ false → few' ≡ []
    → Same runs few base closed runs' few' base closed
reorders_open runs runs' few few' base closed m is none =
    rw (is, none) (same_open runs runs' few base m)

pub reorders_none : (runs : List (List (List ℕ))) (few few' : List (List ℕ)) (base : ℕ)
    (closed : Bool)
    → few' ≡ few → Same runs few base closed runs few' base closed
reorders_none runs few few' base closed e =
    rw e (IsPermutation-refl (committed_of runs few base closed), IsPermutation-refl (added_of runs few base closed))

-- what is found among all names, where these are the fields
pub found_in_sight : (first last : List ℕ) (runs : List (List (List ℕ))) (few : List (List ℕ))
    (base : ℕ) (closed : Bool)
    → IsIndex runs base closed
    → with_more (two_of (filter (is_between first last) (names_of runs)))
    (filter (is_between first last) few)
    ≡ two_of (filter (is_between first last) (committed_of runs few base closed ++ added_of runs few base closed))
found_in_sight first last runs few base closed h =
    found_all first last runs few
    ∙ ap (λ rs. two_of (filter (is_between first last) (names_of rs ++ few)))
    (sym (take_all (length runs) runs (omega arith)))
    ∙ ap (λ ns. two_of (filter (is_between first last) ns)) (all_names runs few base closed h)
