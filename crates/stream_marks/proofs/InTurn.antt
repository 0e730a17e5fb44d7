-- The marks of a list from a number on, and then others: looked up, set and counted.
use Rattle.std.proofs.Common.{◌≡◌, ◌≢◌, ℕ, zero, suc, ◌+◌, ◌<◌, ◌≤◌, true, false, nat_eq, List, [], ◌∷◌, ◌++◌, length, replicate, slice_set, Option, None, Some, is_some, refl, ap, ◌∙◌, inl, inr, arith, length-append}
use Rattle.std.specs.Cmp.{unsigned_Decides}
use Rattle.std.specs.Map.{lookup}
use Rattle.std.specs.Option.{option_or}
use Rattle.std.proofs.lemmas.Bool.{cases_Bool}
use Rattle.std.proofs.lemmas.List.{append-nil, length-replicate, length_push}
use Rattle.indexmap.specs.IndexMap.{insert_entry}
use Rattle.stream_grammar.specs.declared.marked_object.MarkedObject.{MarkedObject}
use Rattle.stream_marks.specs.InOrder.{object_at}
use Rattle.stream_marks.specs.View.{marks_from, in_turn}

-- the objects of a list
abbrev Objects : Type 0
Objects = List (Option MarkedObject)

-- marks with their objects
abbrev Entries : Type 0
Entries = List (ℕ × MarkedObject)

-- another mark is not the same
other : (mark n : ℕ) → mark ≢ n → nat_eq mark n ≡ false
other mark n apart = elim (cases_Bool (nat_eq mark n)) [
  | inl yea ↦ absurd (apart ((unsigned_Decides mark n).0 yea))
  | inr nay ↦ nay
]

module _ (mark : ℕ) where
  -- a mark before those of the list
  lookup-before : (n : ℕ) (xs : Objects) (es : Entries) → mark < n
      → lookup (nat_eq mark) (marks_from n xs ++ es) ≡ lookup (nat_eq mark) es
  lookup-before n [] es before = refl
  lookup-before n (None ∷ xs) es before = lookup-before (n + 1) xs es (omega (arith, before))
  lookup-before n (Some y ∷ xs) es before =
      rw (other mark n (omega (arith, before))) (lookup-before (n + 1) xs es (omega (arith, before)))

  pub lookup-in_turn : (n i : ℕ) (xs : Objects) (es : Entries) → mark ≡ i + n
      → lookup (nat_eq mark) (marks_from n xs ++ es)
      ≡ option_or (object_at xs i) (lookup (nat_eq mark) es)
  lookup-in_turn n i [] es at = refl
  lookup-in_turn n zero (None ∷ xs) es at = lookup-before (n + 1) xs es (omega (arith, at))
  lookup-in_turn n zero (Some y ∷ xs) es at =
      rw ((unsigned_Decides mark n).1 (omega (arith, at))) refl
  lookup-in_turn n (suc i) (None ∷ xs) es at = lookup-in_turn (n + 1) i xs es (omega (arith, at))
  lookup-in_turn n (suc i) (Some y ∷ xs) es at =
      rw (other mark n (omega (arith, at))) (lookup-in_turn (n + 1) i xs es (omega (arith, at)))

  module _ (x : MarkedObject) where
    set-before : (n : ℕ) (xs : Objects) (es : Entries) → mark < n
        → marks_from n xs ++ insert_entry nat_eq es mark x
        ≡ insert_entry nat_eq (marks_from n xs ++ es) mark x
    set-before n [] es before = refl
    set-before n (None ∷ xs) es before = set-before (n + 1) xs es (omega (arith, before))
    set-before n (Some y ∷ xs) es before = rw (other mark n (omega (arith, before)))
        (ap (λ rest. (n, y) ∷ rest) (set-before (n + 1) xs es (omega (arith, before))))

    -- a mark that is not in the list is set among the others
    pub set-other : (n i : ℕ) (xs : Objects) (es : Entries) → mark ≡ i + n
        → is_some (object_at xs i) ≡ false
        → marks_from n xs ++ insert_entry nat_eq es mark x
        ≡ insert_entry nat_eq (marks_from n xs ++ es) mark x
    set-other n i [] es at out = refl
    set-other n zero (None ∷ xs) es at out = set-before (n + 1) xs es (omega (arith, at))
    set-other n zero (Some y ∷ xs) es at out = absurd (cc out)
    set-other n (suc i) (None ∷ xs) es at out = set-other (n + 1) i xs es (omega (arith, at)) out
    set-other n (suc i) (Some y ∷ xs) es at out = rw (other mark n (omega (arith, at)))
        (ap (λ rest. (n, y) ∷ rest) (set-other (n + 1) i xs es (omega (arith, at)) out))

    -- a mark that is in the list keeps its place
    pub set-within : (n i : ℕ) (xs : Objects) (es : Entries) → mark ≡ i + n
        → is_some (object_at xs i) ≡ true
        → marks_from n (slice_set xs i (Some x)) ++ es
        ≡ insert_entry nat_eq (marks_from n xs ++ es) mark x
    set-within n i [] es at has = absurd (cc has)
    set-within n zero (None ∷ xs) es at has = absurd (cc has)
    set-within n zero (Some y ∷ xs) es at has =
        rw ((unsigned_Decides mark n).1 (omega (arith, at))) refl
    set-within n (suc i) (None ∷ xs) es at has = set-within (n + 1) i xs es (omega (arith, at)) has
    set-within n (suc i) (Some y ∷ xs) es at has = rw (other mark n (omega (arith, at)))
        (ap (λ rest. (n, y) ∷ rest) (set-within (n + 1) i xs es (omega (arith, at)) has))

    -- numbers are left out, and the mark is put after those in the list
    put-after : (n gap : ℕ) (xs : Objects) → mark ≡ n + length xs + gap
        → marks_from n (xs ++ replicate gap None ++ Some x ∷ []) ≡ marks_from n xs ++ (mark, x) ∷ []
    put-after n zero [] at = let same : n ≡ mark = omega (arith, at) in ap (λ m. (m, x) ∷ []) same
    put-after n (suc gap) [] at = put-after (n + 1) gap [] (omega (arith, at))
    put-after n gap (None ∷ xs) at = put-after (n + 1) gap xs (omega (arith, at))
    put-after n gap (Some y ∷ xs) at =
        ap (λ rest. (n, y) ∷ rest) (put-after (n + 1) gap xs (omega (arith, at)))

    pub set-after : (gap i : ℕ) (xs : Objects) (es : Entries) → mark ≡ i + 1 → i ≡ length xs + gap
        → is_some (object_at xs i) ≡ false → length es ≡ 0
        → in_turn (xs ++ replicate gap None ++ Some x ∷ []) es
        ≡ insert_entry nat_eq (in_turn xs es) mark x
    set-after gap i xs [] at after out none =
        append-nil (marks_from 1 (xs ++ replicate gap None ++ Some x ∷ []))
        ∙ put-after 1 gap xs (omega (arith, at, after)) ∙ set-other 1 i xs [] at out
    set-after gap i xs (e ∷ es) at after out none = absurd (omega (arith, none))

pub length-set_within : (n i : ℕ) (xs : Objects) (x : MarkedObject)
    → is_some (object_at xs i) ≡ true
    → length (marks_from n (slice_set xs i (Some x))) ≡ length (marks_from n xs)
length-set_within n i [] x has = absurd (cc has)
length-set_within n zero (None ∷ xs) x has = absurd (cc has)
length-set_within n zero (Some y ∷ xs) x has = refl
length-set_within n (suc i) (None ∷ xs) x has = length-set_within (n + 1) i xs x has
length-set_within n (suc i) (Some y ∷ xs) x has = ap suc (length-set_within (n + 1) i xs x has)

pub length-put_after : (n gap : ℕ) (xs : Objects) (x : MarkedObject)
    → length (marks_from n (xs ++ replicate gap None ++ Some x ∷ [])) ≡ length (marks_from n xs) + 1
length-put_after n gap xs x = let mark : ℕ = n + length xs + gap in
    ap length (put-after mark x n gap xs refl) ∙ length_push (marks_from n xs) (mark, x)

-- how long a list is with a gap and one more place
pub length-put : (xs : Objects) (gap : ℕ) (x : Option MarkedObject)
    → length (xs ++ replicate gap None ++ x ∷ []) ≡ length xs + gap + 1
length-put xs gap x = omega (
  arith,
  length_push (xs ++ replicate gap None) x,
  length-append xs (replicate gap None),
  length-replicate {A = Option MarkedObject} gap None,
)

-- the list has a place for each of its marks
pub length-marks_from : (n : ℕ) (xs : Objects) → length (marks_from n xs) ≤ length xs
length-marks_from n [] = omega arith
length-marks_from n (None ∷ xs) = omega (arith, length-marks_from (n + 1) xs)
length-marks_from n (Some y ∷ xs) = omega (arith, length-marks_from (n + 1) xs)

pub length-in_turn : (objects : Objects) (others : Entries)
    → length (in_turn objects others) ≡ length (marks_from 1 objects) + length others
length-in_turn objects others = length-append (marks_from 1 objects) others
