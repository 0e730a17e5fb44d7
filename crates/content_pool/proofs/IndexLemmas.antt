-- Lemmas on buckets: how often a slot stands in one after a change.
use Rattle.std.proofs.Common.{◌≡◌, ◌⊎◌, ℕ, suc, ◌+◌, ◌<◌, ◌≤◌, ◌==◌, not, if◌then◌else◌, Bool, true, false, cond, List, [], ◌∷◌, ◌++◌, length, get_or, Option, Some, None, count_by, refl, sym, ap, ◌∙◌, arith, inl, inr, unwrap_or}
use Rattle.std.specs.List.{swap_remove, position, position_or_len}
use Rattle.std.specs.Map.{lookup}
use Rattle.std.specs.Str.{bytes_eq}
use Rattle.std.specs.Cmp.Lexicographic.{bytes_decides}
use Rattle.std.proofs.lemmas.Bool.{cases_lt, cases_Bool, eqb-true, cond-true, cond-false}
use Rattle.std.proofs.lemmas.Bool.Decides.{nat_tests}
use Rattle.std.proofs.lemmas.List.Sums.{sum_by-swap_remove, sum_by-remove, sum_by_push, sum_by-cons, prefix_len_stops}
use Rattle.std.proofs.lemmas.List.Quantifiers.{position-Some}
use Rattle.content_pool.specs.Index.{Buckets, bucket, times, Notes, Forgets, SameBuckets}

-- A slot swapped out of a bucket stands there once less, and every other as often.
pub times-swap_remove : (slots : List ℕ) (slot i d : ℕ) → position (λ t. t == slot) slots ≡ Some i
    → (s : ℕ) → times (swap_remove slots i d) s + (if slot == s then 1 else 0) ≡ times slots s
times-swap_remove slots slot i d found s =
    let at = position-Some (λ t. t == slot) slots i d found in
    let e : get_or slots i d ≡ slot = eqb-true _ _ at.1 in
    let swapped = sum_by-swap_remove (λ t. cond (t == s) 1 0) slots i d at.0 in
    rw e at swapped

counted_none : (p : ℕ → Bool) (xs : List ℕ) → length xs ≤ position_or_len p xs → count_by p xs ≡ 0
counted_none p [] h = refl
counted_none p (x ∷ xs) h =
    rw sum_by-cons (step (p x) (length xs) (position_or_len p xs) (count_by p xs) (counted_none p xs) h)
  where
    step : (b : Bool) (l n c : ℕ) → (l ≤ n → c ≡ 0) → suc l ≤ cond (not b) (1 + n) 0
        → cond b 1 0 + c ≡ 0
    step true l n c rest h = omega arith
    step false l n c rest h = omega (arith, rest (omega arith))

-- Where no slot is found, it stands in the bucket no time.
pub times_from_absent : (slots : List ℕ) (slot : ℕ) → position (λ t. t == slot) slots ≡ None
    → times slots slot ≡ 0
times_from_absent slots slot absent = counted_none (λ t. t == slot) slots (grind (arith, nat_tests))

-- A slot that stands in a bucket stands somewhere in it.
pub place_from_times : (slots : List ℕ) (s : ℕ) → 0 < times slots s
    → (k : ℕ) × (k < length slots) × (get_or slots k 0 ≡ s)
place_from_times slots s stands =
    let p : ℕ → Bool = λ t. t == s in
    let within : position_or_len p slots < length slots =
    elim (cases_lt (position_or_len p slots) (length slots)) [
      | inl found ↦ found
      | inr all ↦ absurd (omega (arith, counted_none p slots all))
    ] in
    (position_or_len p slots, within, grind (arith, nat_tests, prefix_len_stops (λ t. not (p t)) slots 0 within))

-- What lies in a bucket stands there.
pub times_at_place : (slots : List ℕ) (k : ℕ) → k < length slots
    → 0 < times slots (get_or slots k 0)
times_at_place slots k within =
    let s : ℕ = get_or slots k 0 in
    let split = sum_by-remove (λ t. cond (t == s) 1 0) slots k 0 within in
    grind (arith, nat_tests, split)

module _ (old new : Buckets) (id : List ℕ) (o : Option (List ℕ))
    (updates : (n : List ℕ) → lookup (bytes_eq n) new ≡ cond (bytes_eq id n) o (lookup (bytes_eq n) old)) where
  -- Where one bucket is replaced, every other stays.
  bucket-update : (n : List ℕ) → bucket new n ≡ cond (bytes_eq id n) (unwrap_or o []) (bucket old n)
  bucket-update n = rw updates (by (bytes_eq id n))
    where
      by : (b : Bool)
          → unwrap_or (cond b o (lookup (bytes_eq n) old)) []
          ≡ cond b (unwrap_or o []) (bucket old n)
      by true = refl
      by false = refl

  -- The new bucket at an object name, as a count.
  times-update : (n : List ℕ) (s : ℕ)
      → ((bytes_eq id n ≡ true) × (times (bucket new n) s ≡ times (unwrap_or o []) s) × (bucket old n ≡ bucket old id)) ⊎ ((bytes_eq id n ≡ false) × (bucket new n ≡ bucket old n))
  times-update n s =
      elim (cases_Bool (bytes_eq id n)) [
        | inl here ↦
            inl
            (here, ap (λ l. times l s) (bucket-update n ∙ cond-true _ _ _ here), ap (bucket old) (sym ((bytes_decides id n).0 here)))
        | inr apart ↦ inr (apart, bucket-update n ∙ cond-false _ _ _ apart)
      ]

  pub Notes-update : (slot : ℕ)
      → ((s : ℕ) → times (unwrap_or o []) s ≡ times (bucket old id) s + (if slot == s then 1 else 0))
      → Notes old new id slot
  Notes-update slot more =
      record {
        added = λ n s.
            elim (times-update n s) [
              | inl here ↦ here.1 ∙ more s ∙ rw (here.0, here.2)
              | inr apart ↦ rw (apart.0, apart.1) (omega arith)
            ];
      }

  pub Forgets-update : (slot : ℕ)
      → ((s : ℕ) → times (unwrap_or o []) s + (if slot == s then 1 else 0) ≡ times (bucket old id) s)
      → Forgets old new id slot
  Forgets-update slot less =
      record {
        taken = λ n s.
            elim (times-update n s) [
              | inl here ↦ rw (here.0, here.1, here.2) (less s)
              | inr apart ↦ rw (apart.0, apart.1) (omega arith)
            ];
      }

  -- A bucket replaced by one that has the same changes nothing.
  pub SameBuckets-update : unwrap_or o [] ≡ bucket old id → SameBuckets old new
  SameBuckets-update same n =
      elim (cases_Bool (bytes_eq id n)) [
        | inl here ↦
            bucket-update n ∙ cond-true _ _ _ here ∙ same
            ∙ ap (bucket old) ((bytes_decides id n).0 here)
        | inr apart ↦ bucket-update n ∙ cond-false _ _ _ apart
      ]

module _ (old new : Buckets) (id w : List ℕ) (slot : ℕ)
    (updates : (n : List ℕ) → lookup (bytes_eq n) new ≡ cond (bytes_eq id n) (Some w) (lookup (bytes_eq n) old)) where
  -- A slot put after the others of its bucket is noted.
  pub Notes-push : (b : List ℕ) → Some b ≡ lookup (bytes_eq id) old → w ≡ b ++ slot ∷ []
      → Notes old new id slot
  Notes-push b was is = Notes-update old new id (Some w) updates slot
      (λ s. ap (λ l. times l s) is ∙ sum_by_push (λ t. cond (t == s) 1 0) b slot ∙ ap (λ o. times (unwrap_or o []) s + cond (slot == s) 1 0) was)

  -- A slot in a bucket of its own is noted.
  pub Notes-first : lookup (bytes_eq id) old ≡ None → w ≡ slot ∷ [] → Notes old new id slot
  Notes-first was is = Notes-update old new id (Some w) updates slot
      (λ s. ap (λ l. times l s) is ∙ sym (ap (λ o. times (unwrap_or o []) s + cond (slot == s) 1 0) was))

  -- A bucket written back as it was changes nothing.
  pub SameBuckets-written : Some w ≡ lookup (bytes_eq id) old → SameBuckets old new
  SameBuckets-written was =
      SameBuckets-update old new id (Some w) updates (ap (λ o. unwrap_or o []) was)
