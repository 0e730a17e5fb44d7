-- Flags of the numbers that are met.
use Rattle.std.proofs.Common.{◌≡◌, ℕ, ◌<◌, ◌≤◌, Bool, true, false, List, [], ◌∷◌, ◌++◌, length, get_or, set, replicate, refl, sym, subst, ◌∙◌, inl, inr, append_assoc, append-nil, arith, true≢false, length-set}
use Rattle.std.specs.Prelude.{◌≢◌, ◌↔◌, ◌⊎◌, All}
use Rattle.std.specs.List.{Contains}
use Rattle.std.proofs.lemmas.List.{get_or-replicate, get_or-set_same, get_or-set_other, get_or_default, length-replicate}
use Rattle.std.proofs.lemmas.List.Elements.{Contains-append_left, Contains-push, Contains-push_cases}
use Rattle.std.proofs.lemmas.Bool.{cases_eq}
use Rattle.pool_file_checks.specs.Held.{AreHeld, AreMarked}

pub marked_none : (count : ℕ) → AreMarked (replicate count false) count []
marked_none count = record {
  size = length-replicate count false;
  each = λ n l. (
    λ e. absurd (true≢false (sym e ∙ get_or-replicate count n false false l)),
    λ c. absurd (let below = c.1 in omega (arith, below)),
  );
}

pub marked_one : (flags : List Bool) (count n : ℕ) (numbers : List ℕ) → n < length flags
    → AreMarked flags count numbers → AreMarked (set flags n true) count (numbers ++ n ∷ [])
marked_one flags count n numbers l m = record {
  size = length-set flags n true ∙ m.size;
  each = λ k small. case k small (cases_eq k n);
}
  where
    this : (k : ℕ) → k ≡ n → (get_or (set flags n true) k false ≡ true) ↔ Contains (numbers ++ n ∷ []) k
    this k e = rw e (λ s. Contains-push numbers n, λ c. get_or-set_same flags n true false l)

    other : (k : ℕ) → k < count → k ≢ n → (get_or (set flags n true) k false ≡ true) ↔ Contains (numbers ++ n ∷ []) k
    other k small differs =
        let kept = get_or-set_other flags n k true false differs in (
          λ e. Contains-append_left numbers (n ∷ []) k ((m.each k small).0 (sym kept ∙ e)),
          λ c. elim (Contains-push_cases numbers n k c) [
            | inl h ↦ kept ∙ (m.each k small).1 h
            | inr h ↦ absurd (differs (sym h))
          ],
        )

    case : (k : ℕ) → k < count → (k ≡ n) ⊎ (k ≢ n) → (get_or (set flags n true) k false ≡ true) ↔ Contains (numbers ++ n ∷ []) k
    case k small (inl p) = this k p
    case k small (inr p) = other k small p

pub marked_past : (flags : List Bool) (count n : ℕ) (numbers : List ℕ) → length flags ≤ n
    → AreMarked flags count numbers → AreMarked flags count (numbers ++ n ∷ [])
marked_past flags count n numbers past m = record {
  size = m.size;
  each = λ k small. (
    λ e. Contains-append_left numbers (n ∷ []) k ((m.each k small).0 e),
    λ c. elim (Contains-push_cases numbers n k c) [
      | inl h ↦ (m.each k small).1 h
      | inr h ↦ absurd (let size = m.size in omega (arith, size))
    ],
  );
}

-- All flags are set where all numbers are met.
pub marked_all : (flags : List Bool) (count : ℕ) (numbers : List ℕ) → AreMarked flags count numbers
    → All (λ flag. flag ≡ true) flags ↔ AreHeld count numbers
marked_all flags count numbers m = (
  λ h n l. (m.each n l).0 (h n false (subst (λ (k : ℕ). n < k) (sym m.size) l)),
  λ h k d l. get_or_default flags k d false l ∙ let below = subst (λ (c : ℕ). k < c) m.size l in (m.each k below).1 (h k below),
)

-- ---- in turn

-- What was met and what is left are all.
pub record Marks (flags : List Bool) (count : ℕ) (rest whole : List ℕ) : Type 0 where
  pub seen : List ℕ
  pub marked : AreMarked flags count seen
  pub adds : seen ++ rest ≡ whole

pub marks_start : (flags : List Bool) (count : ℕ) (numbers rest : List ℕ) → AreMarked flags count numbers
    → Marks flags count rest (numbers ++ rest)
marks_start flags count numbers rest m = record { seen = numbers; marked = m; adds = refl }

pub marks_on : (old new : List Bool) (count : ℕ) (more rest whole : List ℕ) → Marks old count (more ++ rest) whole
    → ((numbers : List ℕ) → AreMarked old count numbers → AreMarked new count (numbers ++ more)) → Marks new count rest whole
marks_on old new count more rest whole m step = record {
  seen = m.seen ++ more;
  marked = step m.seen m.marked;
  adds = append_assoc m.seen more rest ∙ m.adds;
}

pub marks_end : (flags : List Bool) (count : ℕ) (whole : List ℕ) → Marks flags count [] whole → AreMarked flags count whole
marks_end flags count whole m = subst (AreMarked flags count) (sym (append-nil m.seen) ∙ m.adds) m.marked
