-- Texts that rise, and lists of entries in the order of their keys.
use Rattle.std.proofs.Common.{◌≡◌, ℕ, zero, suc, ◌<◌, Bool, true, false, ◌&&◌, List, [], ◌∷◌, ◌++◌, map, length, get_or, Option, None, Some, T, refl, sym, subst, ◌∙◌, arith}
use Rattle.std.specs.Option.{option_map}
use Rattle.std.specs.Ordering.{is_lt}
use Rattle.std.specs.declared.cmp.Ordering.{Ordering}
use Rattle.std.specs.declared.cmp.Ordering.TheVariants.{Less, Equal, Greater}
use Rattle.std.specs.FinMap.{is_sorted}
use Rattle.std.specs.FinMap.Entries.{below_all}
use Rattle.std.proofs.lemmas.Cmp.{nat_list_cmp_total, nat_cmp_total, tied_itself}
use Rattle.tenant_refs.proofs.Entries.{both, first, less, second}
use Rattle.pool_file_checks.specs.Objects.{IsAfter}
use Rattle.pool_file_checks.specs.FileRefs.{AreRising}
use Rattle.pool_file_checks.proofs.Keys.{key_cmp}

is_less : (o : Ordering) → o ≡ Less → T (is_lt o)
is_less o e = subst (λ (x : Ordering). T (is_lt x)) (sym e) tt

pub rising_first : (last : Option (List ℕ)) (x : List ℕ) (xs : List (List ℕ))
    → AreRising last (x ∷ xs) → IsAfter last x
unfolding AreRising
rising_first last x xs r = r.0

pub rising_rest : (last : Option (List ℕ)) (x : List ℕ) (xs : List (List ℕ))
    → AreRising last (x ∷ xs) → AreRising (Some x) xs
unfolding AreRising
rising_rest last x xs r = r.1

pub rising_none : (last : Option (List ℕ)) → AreRising last []
unfolding AreRising
rising_none last = tt

pub rising_more : (last : Option (List ℕ)) (x : List ℕ) (xs : List (List ℕ)) → IsAfter last x
    → AreRising (Some x) xs → AreRising last (x ∷ xs)
unfolding AreRising
rising_more last x xs b r = (b, r)

module _ {X : Type 0} where
  abbrev keys : List (List ℕ × X) → List (List ℕ)
  keys es = map (λ e. e.0) es

  -- what rises step by step is above each text before it
  above_last : (x : List ℕ) (last : List ℕ) (es : List (List ℕ × X)) → key_cmp x last ≡ Less
      → AreRising (Some last) (keys es) → T (below_all key_cmp x es)
  above_last x last [] l r = tt
  above_last x last (e ∷ es) l r =
      let step : key_cmp x e.0 ≡ Less = nat_list_cmp_total.trans x last e.0 l
      (rising_first (Some last) e.0 (keys es) r) in
      both (is_lt (key_cmp x e.0)) (below_all key_cmp x es) (is_less (key_cmp x e.0) step)
      (above_last x e.0 es step (rising_rest (Some last) e.0 (keys es) r))

  above : (x : List ℕ) (es : List (List ℕ × X)) → AreRising (Some x) (keys es)
      → T (below_all key_cmp x es)
  above x [] r = tt
  above x (e ∷ es) r =
      let step : key_cmp x e.0 ≡ Less = rising_first (Some x) e.0 (keys es) r in
      both (is_lt (key_cmp x e.0)) (below_all key_cmp x es) (is_less (key_cmp x e.0) step)
      (above_last x e.0 es step (rising_rest (Some x) e.0 (keys es) r))

  pub sorted_rising : (last : Option (List ℕ)) (es : List (List ℕ × X))
      → AreRising last (keys es) → T (is_sorted key_cmp es)
  sorted_rising last [] r = tt
  sorted_rising last (e ∷ es) r =
      let rest = rising_rest last e.0 (keys es) r in
      both (below_all key_cmp e.0 es) (is_sorted key_cmp es) (above e.0 es rest)
      (sorted_rising (Some e.0) es rest)

  rising_after : (x : List ℕ) (es : List (List ℕ × X)) → T (below_all key_cmp x es)
      → T (is_sorted key_cmp es) → AreRising (Some x) (keys es)
  rising_after x [] b s = rising_none (Some x)
  rising_after x (e ∷ es) b s =
      rising_more (Some x) e.0 (keys es)
      (less (key_cmp x e.0) (first (is_lt (key_cmp x e.0)) (below_all key_cmp x es) b))
      (rising_after e.0 es (first (below_all key_cmp e.0 es) (is_sorted key_cmp es) s)
      (second (below_all key_cmp e.0 es) (is_sorted key_cmp es) s))

  pub rising_sorted : (es : List (List ℕ × X)) → T (is_sorted key_cmp es)
      → AreRising None (keys es)
  rising_sorted [] s = rising_none None
  rising_sorted (e ∷ es) s =
      rising_more None e.0 (keys es) tt
      (rising_after e.0 es (first (below_all key_cmp e.0 es) (is_sorted key_cmp es) s)
      (second (below_all key_cmp e.0 es) (is_sorted key_cmp es) s))

  below_at : (x : List ℕ) (es : List (List ℕ × X)) (n : ℕ) (d : List ℕ × X)
      → T (below_all key_cmp x es) → n < length es → key_cmp x (get_or es n d).0 ≡ Less
  below_at x [] n d b l = absurd (omega (arith, l))
  below_at x (e ∷ es) zero d b l =
      less (key_cmp x e.0) (first (is_lt (key_cmp x e.0)) (below_all key_cmp x es) b)
  below_at x (e ∷ es) (suc n) d b l =
      below_at x es n d (second (is_lt (key_cmp x e.0)) (below_all key_cmp x es) b)
      (omega (arith, l))

  -- of two places the key at the later one is the greater
  pub rising_at : (es : List (List ℕ × X)) (k n : ℕ) (d : List ℕ × X)
      → T (is_sorted key_cmp es) → k < n → n < length es
      → key_cmp (get_or es k d).0 (get_or es n d).0 ≡ Less
  rising_at [] k n d s l m = absurd (omega (arith, m))
  rising_at (e ∷ es) zero zero d s l m = absurd (omega (arith, l))
  rising_at (e ∷ es) zero (suc n) d s l m =
      below_at e.0 es n d (first (below_all key_cmp e.0 es) (is_sorted key_cmp es) s)
      (omega (arith, m))
  rising_at (e ∷ es) (suc k) zero d s l m = absurd (omega (arith, l))
  rising_at (e ∷ es) (suc k) (suc n) d s l m =
      rising_at es k n d (second (below_all key_cmp e.0 es) (is_sorted key_cmp es) s)
      (omega (arith, l)) (omega (arith, m))

-- ---- texts with the same front

cmp_front : (front a b : List ℕ) → key_cmp (front ++ a) (front ++ b) ≡ key_cmp a b
cmp_front [] a b = refl
cmp_front (x ∷ front) a b = rw (tied_itself nat_cmp_total x) (cmp_front front a b)

abbrev pub after_front : List ℕ → Option (List ℕ) → Option (List ℕ)
after_front front last = option_map (λ a. front ++ a) last

is_after_front : (front : List ℕ) (last : Option (List ℕ)) (a : List ℕ) → IsAfter last a
    → IsAfter (after_front front last) (front ++ a)
is_after_front front None a b = tt
is_after_front front (Some x) a b = cmp_front front x a ∙ b

is_after : (front : List ℕ) (last : Option (List ℕ)) (a : List ℕ)
    → IsAfter (after_front front last) (front ++ a) → IsAfter last a
is_after front None a b = tt
is_after front (Some x) a b = sym (cmp_front front x a) ∙ b

pub rising_with_front : (front : List ℕ) (last : Option (List ℕ)) (xs : List (List ℕ))
    → AreRising last xs → AreRising (after_front front last) (map (λ a. front ++ a) xs)
rising_with_front front last [] r = rising_none (after_front front last)
rising_with_front front last (x ∷ xs) r =
    rising_more (after_front front last) (front ++ x) (map (λ a. front ++ a) xs)
    (is_after_front front last x (rising_first last x xs r))
    (rising_with_front front (Some x) xs (rising_rest last x xs r))

pub rising_without_front : (front : List ℕ) (last : Option (List ℕ)) (xs : List (List ℕ))
    → AreRising (after_front front last) (map (λ a. front ++ a) xs) → AreRising last xs
rising_without_front front last [] r = rising_none last
rising_without_front front last (x ∷ xs) r =
    let all = map (λ a. front ++ a) xs in
    rising_more last x xs
    (is_after front last x (rising_first (after_front front last) (front ++ x) all r))
    (rising_without_front front (Some x) xs
    (rising_rest (after_front front last) (front ++ x) all r))
