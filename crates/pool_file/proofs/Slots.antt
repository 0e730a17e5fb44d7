-- The slots of a file's contents, while the pool changes.
use Rattle.std.proofs.Common.{◌≡◌, ℕ, ◌+◌, ◌<◌, ◌≤◌, ◌==◌, inl, inr, cond, List, [], ◌∷◌, map, length, None, T, refl, sym, ap, subst, ◌∙◌, arith}
use Rattle.std.specs.Prelude.{All}
use Rattle.std.specs.Ordering.{is_lt}
use Rattle.std.specs.declared.cmp.Ordering.{Ordering}
use Rattle.std.specs.FinMap.{is_sorted}
use Rattle.std.specs.FinMap.Entries.{below_all}
use Rattle.std.proofs.lemmas.Bool.{cases_eq}
use Rattle.std.proofs.lemmas.Bool.Decides.{nat_tests}
use Rattle.std.proofs.lemmas.Cmp.{nat_list_cmp_total, tied_itself}
use Rattle.std.proofs.lemmas.List.{length-map}
use Rattle.std.proofs.lemmas.List.Elements.{All-nil, All-cons}
use Rattle.std.proofs.lemmas.List.Sums.{sum_by-cons}
use Rattle.content_pool.specs.Pool.{Cells, holds, content, IsLive}
use Rattle.pool_file_format.specs.Format.{RawObject}
use Rattle.pool_file_checks.specs.Checks.{Passes}
use Rattle.pool_file_checks.specs.Objects.{raw_object, object_key, object_checks}
use Rattle.pool_file_checks.specs.FileRefs.{AreRising}
use Rattle.pool_file_checks.proofs.Keys.{key_cmp}
use Rattle.tenant_refs.proofs.Entries.{first, second}
use Rattle.pool_file_checks.proofs.Rising.{sorted_rising}
use Rattle.pool_file_checks.proofs.Passing.{objects_rise}
use Rattle.pool_file.specs.Building.{objects_at, times_in}

pub times-cons : (t : ℕ) (slots : List ℕ) (s : ℕ)
    → times_in (t ∷ slots) s ≡ cond (t == s) 1 0 + times_in slots s
unfolding times_in
times-cons t slots s = sum_by-cons (λ (x : ℕ). cond (x == s) 1 0) t slots

pub times-nil : (s : ℕ) → times_in [] s ≡ 0
unfolding times_in
times-nil s = refl

times-head : (t : ℕ) (slots : List ℕ) → 0 < times_in (t ∷ slots) t
times-head t slots = rw (times-cons t slots t) (grind (arith, nat_tests))

times-tail : (t : ℕ) (slots : List ℕ) (s : ℕ) → times_in slots s ≤ times_in (t ∷ slots) s
times-tail t slots s = rw (times-cons t slots s) (omega arith)

-- what is counted is live
pub slots_live : (pool : Cells) (slots : List ℕ) → ((s : ℕ) → times_in slots s ≤ holds pool s)
    → All (IsLive pool) slots
slots_live pool [] counted = All-nil (IsLive pool)
slots_live pool (t ∷ ts) counted =
    All-cons (IsLive pool) t ts
    (let a = counted t in let b = times-head t ts in omega arith)
    (slots_live pool ts (λ s. let a = counted s in let b = times-tail t ts s in omega arith))

-- slots that keep their contents lie under the same objects
pub objects_at-kept : (p q : Cells) (slots : List ℕ)
    → ((s : ℕ) → 0 < times_in slots s → content q s ≡ content p s)
    → objects_at q slots ≡ objects_at p slots
unfolding objects_at
objects_at-kept p q [] kept = refl
objects_at-kept p q (t ∷ ts) kept =
    let here : content q t ≡ content p t = kept t (times-head t ts) in
    let rest = objects_at-kept p q ts
    (λ s some. kept s (let b = times-tail t ts s in omega arith)) in
    λ i. raw_object (here i) ∷ rest i

-- ---- the objects of a file rise, so no slot has two of them

module _ (pool : Cells) where
  key_at : ℕ → List ℕ
  key_at s = object_key (raw_object (content pool s))

  abbrev keyed_at : List ℕ → List (List ℕ × ℕ)
  keyed_at slots = map (λ s. (key_at s, s)) slots

  keys_are : (slots : List ℕ)
      → map (λ e. e.0) (keyed_at slots) ≡ map object_key (objects_at pool slots)
  unfolding objects_at key_at
  keys_are [] = refl
  keys_are (t ∷ ts) = ap (λ (l : List (List ℕ)). object_key (raw_object (content pool t)) ∷ l) (keys_are ts)

  not_below_itself : (x y : List ℕ) → x ≡ y → T (is_lt (key_cmp x y)) → ⊥
  not_below_itself x y same lt =
      subst (λ (o : Ordering). T (is_lt o)) (tied_itself nat_list_cmp_total x)
      (subst (λ (z : List ℕ). T (is_lt (key_cmp x z))) (sym same) lt)

  none_above : (x : List ℕ) (slots : List ℕ) (s : ℕ) → x ≡ key_at s
      → T (below_all key_cmp x (keyed_at slots)) → times_in slots s ≡ 0
  none_above x [] s same below = times-nil s
  none_above x (t ∷ ts) s same below =
      let rest = none_above x ts s same
      (second (is_lt (key_cmp x (key_at t))) (below_all key_cmp x (keyed_at ts)) below) in
      elim (cases_eq t s) [
        | inl here ↦ absurd (not_below_itself x (key_at t) (same ∙ ap key_at (sym here))
            (first (is_lt (key_cmp x (key_at t))) (below_all key_cmp x (keyed_at ts)) below))
        | inr other ↦ rw (times-cons t ts s) (grind (arith, nat_tests, rest))
      ]

  once_sorted : (slots : List ℕ) (s : ℕ) → T (is_sorted key_cmp (keyed_at slots))
      → times_in slots s ≤ 1
  once_sorted [] s sorted = rw (times-nil s) (omega arith)
  once_sorted (t ∷ ts) s sorted =
      let below = first (below_all key_cmp (key_at t) (keyed_at ts)) (is_sorted key_cmp (keyed_at ts)) sorted in
      let rest = once_sorted ts s
      (second (below_all key_cmp (key_at t) (keyed_at ts)) (is_sorted key_cmp (keyed_at ts)) sorted) in
      elim (cases_eq t s) [
        | inl here ↦
            let none = none_above (key_at t) ts s (ap key_at here) below in
            rw (times-cons t ts s) (grind (arith, nat_tests, none))
        | inr other ↦ rw (times-cons t ts s) (grind (arith, nat_tests, rest))
      ]

  pub once_in : (slots : List ℕ) (os : List RawObject) → objects_at pool slots ≡ os
      → Passes (object_checks None os) → (s : ℕ) → times_in slots s ≤ 1
  once_in slots os stored p s =
      once_sorted slots s
      (sorted_rising None (keyed_at slots)
      (subst (AreRising None) (sym (keys_are slots ∙ ap (map object_key) stored)) (objects_rise None os p)))

-- ---- numbers of a file's contents

pub numbers_in : (pool : Cells) (slots numbers : List ℕ)
    → All (λ n. n < length (objects_at pool slots)) numbers
    → All (λ n. n < length slots) numbers
unfolding objects_at
numbers_in pool slots numbers all =
    subst (λ (k : ℕ). All (λ n. n < k) numbers)
    (length-map slots (λ s. raw_object (content pool s))) all
