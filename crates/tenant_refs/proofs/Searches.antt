-- What a binary search by key finds in a list of entries in order.
use Rattle.std.proofs.Common.{◌≡◌, ℕ, zero, suc, ◌+◌, ◌<◌, ◌≤◌, false, T, List, [], ◌∷◌, ◌++◌, length, get_or, take, drop, Result, Ok, Err, IfOk, IfErr, sym, ap, subst, ◌∙◌, arith}
use Rattle.std.specs.declared.cmp.Ordering.{Ordering}
use Rattle.std.specs.declared.cmp.Ordering.TheVariants.{Less, Equal, Greater}
use Rattle.std.specs.Ordering.{is_lt, ordering_index, ordering_reverse, nat_cmp}
use Rattle.std.specs.Cmp.Lexicographic.{slice_cmp}
use Rattle.std.specs.FinMap.Entries.{is_sorted}
use Rattle.std.specs.FinMap.{slice_cmp-IsAntisymmetric, nat_cmp-IsAntisymmetric}
use Rattle.std.specs.List.{AllByRecursion, HoldsAt}
use Rattle.std.specs.List.Sorted.{IsSortedBy, IsNonDecreasingBy, IsPartitionPoint, IsSearchInRange, IsBinarySearchResult}
use Rattle.std.proofs.lemmas.Cmp.{nat_list_cmp_total}
use Rattle.std.proofs.lemmas.List.Sorted.{searchable_from_sorted}
use Rattle.tenant_refs.specs.Place.{Entries, IsPlaceOf, IsGapFor}
use Rattle.std.proofs.lemmas.List.{take-append-drop, length-take-le}
use Rattle.std.proofs.Math.Seq.{split_at}
use Rattle.tenant_refs.proofs.Entries.{second-above, sorted_tail}

abbrev bytes_cmp : List ℕ → List ℕ → Ordering
bytes_cmp = slice_cmp nat_cmp

-- the comparisons with a name rise along entries in order
not_less : (o : Ordering) → o ≡ Greater → is_lt o ≡ false
not_less o e = rw e

steps : (es : Entries) → T (is_sorted bytes_cmp es)
    → IsSortedBy (λ a b. is_lt (bytes_cmp a.0 b.0)) es
steps [] h k d low high = absurd (omega arith)
steps (e ∷ []) h k d low high = absurd (omega arith)
steps (e ∷ (f ∷ es)) h zero d low high =
    not_less _ (second-above bytes_cmp nat_list_cmp_total e f es h)
steps (e ∷ (f ∷ es)) h (suc k) d low high =
    let next : suc k + 1 ≡ suc (k + 1) = omega arith in
    rw next (steps (f ∷ es) (sorted_tail bytes_cmp nat_list_cmp_total e (f ∷ es) h) k d (omega arith) (omega arith))

rises : (es : Entries) (ref : List ℕ) → T (is_sorted bytes_cmp es)
    → IsNonDecreasingBy (λ e. ordering_index (bytes_cmp e.0 ref)) es
rises es ref h = searchable_from_sorted nat_list_cmp_total (λ e. e.0) es ref (steps es h)

-- what holds of each element below a position, or from it on, by recursion
module _ {X : Type 0} (P : X → Type 0) where
  all-take : (xs : List X) (i : ℕ) → i ≤ length xs → ((k : ℕ) (d : X) → k < i → P (get_or xs k d))
      → AllByRecursion P (take i xs)
  all-take xs zero fits each = tt
  all-take [] (suc i) fits each = absurd (omega arith)
  all-take (x ∷ xs) (suc i) fits each =
      (each 0 x (omega arith), all-take xs i (omega arith) (λ k d low. each (suc k) d (omega arith)))

  all-drop : (xs : List X) (i : ℕ) → ((k : ℕ) (d : X) → i ≤ k → k < length xs → P (get_or xs k d))
      → AllByRecursion P (drop i xs)
  all-drop [] zero each = tt
  all-drop [] (suc i) each = tt
  all-drop (x ∷ xs) zero each =
      (each 0 x (omega arith) (omega arith), all-drop xs zero (λ k d low high. each (suc k) d (omega arith) (omega arith)))
  all-drop (x ∷ xs) (suc i) each =
      all-drop xs i (λ k d low high. each (suc k) d (omega arith) (omega arith))

turned : (a b : List ℕ) (r : Ordering) → bytes_cmp a b ≡ r → bytes_cmp b a ≡ ordering_reverse r
turned a b r e = nat_list_cmp_total.antisymm b a ∙ ap ordering_reverse e

place : (es : Entries) (ref : List ℕ) (i : ℕ) → i < length es
    → HoldsAt (λ e. bytes_cmp e.0 ref ≡ Equal) es i → IsPlaceOf es ref i
place es ref i bound found =
    let e = get_or es i ([], []) in
    let is_ref : e.0 ≡ ref = slice_cmp-IsAntisymmetric nat_cmp-IsAntisymmetric e.0 ref (found ([], [])) in
    record {
      before = take i es;
      target = e.1;
      after = drop (suc i) es;
      stands =
          subst (λ r. es ≡ take i es ++ (r, e.1) ∷ drop (suc i) es) is_ref
          (split_at es i ([], []) bound);
      position_is = length-take-le i es (omega arith);
    }

gap : (es : Entries) (ref : List ℕ) (i : ℕ) → i ≤ length es
    → IsPartitionPoint (λ e. bytes_cmp e.0 ref ≡ Less) (λ e. bytes_cmp e.0 ref ≡ Greater) es i
    → IsGapFor es ref i
gap es ref i bound parts = record {
  before = take i es;
  after = drop i es;
  parts = sym (take-append-drop i es);
  position_is = length-take-le i es bound;
  below =
      all-take _ es i bound
      (λ k d low. turned (get_or es k d).0 ref Less (parts.0 k d (omega arith) low));
  above =
      all-drop _ es i (λ k d low high. turned (get_or es k d).0 ref Greater (parts.1 k d low high));
}

pub searched : (es : Entries) (ref : List ℕ) (r : Result ℕ ℕ) → T (is_sorted bytes_cmp es)
    → IsSearchInRange r (length es)
    → IsBinarySearchResult (λ e. bytes_cmp e.0 ref) es r
    → IfOk r (IsPlaceOf es ref) × IfErr r (IsGapFor es ref)
searched es ref (Ok i) h bound found = (place es ref i bound found, tt)
searched es ref (Err i) h bound parts = (tt, gap es ref i bound (parts (rises es ref h)))
