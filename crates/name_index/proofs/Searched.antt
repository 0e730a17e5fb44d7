-- What a search by halves finds among names in order.
use Rattle.std.proofs.Common.{◌≡◌, ℕ, zero, suc, ◌≤◌, ◌<◌, Bool, true, false, ◌⊎◌, ◌-◌, ◌+◌, ◌&&◌, take, drop, List, [], ◌∷◌, length, get_or, filter, inl, inr, refl, ap, arith}
use Rattle.std.specs.Cmp.Lexicographic.{slice_cmp, nat_list_cmp_total}
use Rattle.std.specs.List.Sorted.{IsSorted, IsPartitionedBy, IsPartitionPoint, IsNonDecreasingBy}
use Rattle.std.specs.Ordering.{nat_cmp, is_lt, is_le, ordering_index}
use Rattle.std.specs.declared.cmp.Ordering.{Ordering}
use Rattle.std.specs.declared.cmp.Ordering.TheVariants.{Less, Equal, Greater}
use Rattle.std.proofs.lemmas.List.Sorted.{searchable_from_sorted}
use Rattle.std.proofs.lemmas.Bool.{cases_lt}
use Rattle.name_index.specs.Index.{is_before, is_up_to, is_between}

low_lt : (r s : Ordering) → ordering_index r ≤ ordering_index s → is_lt s ≡ true → is_lt r ≡ true
low_lt Less Less n h = refl
low_lt Less Equal n h = cc h
low_lt Less Greater n h = cc h
low_lt Equal Less n h = absurd (omega arith)
low_lt Equal Equal n h = h
low_lt Equal Greater n h = cc h
low_lt Greater Less n h = absurd (omega arith)
low_lt Greater Equal n h = cc h
low_lt Greater Greater n h = h

low_le : (r s : Ordering) → ordering_index r ≤ ordering_index s → is_le s ≡ true → is_le r ≡ true
low_le Less s n h = refl
low_le Equal s n h = refl
low_le Greater Less n h = absurd (omega arith)
low_le Greater Equal n h = absurd (omega arith)
low_le Greater Greater n h = h

pub rises : (xs : List (List ℕ)) (x : List ℕ) → IsSorted (slice_cmp nat_cmp) xs
    → IsNonDecreasingBy (λ y. ordering_index (slice_cmp nat_cmp y x)) xs
rises xs x h = searchable_from_sorted nat_list_cmp_total (λ y. y) xs x h

pub before_parted : (xs : List (List ℕ)) (first : List ℕ) → IsSorted (slice_cmp nat_cmp) xs
    → IsPartitionedBy (is_before first) xs
before_parted xs first h i j d le lt e = low_lt _ _ (rises xs first h i j d le lt) e

pub up_to_parted : (xs : List (List ℕ)) (last : List ℕ) → IsSorted (slice_cmp nat_cmp) xs
    → IsPartitionedBy (is_up_to last) xs
up_to_parted xs last h i j d le lt e = low_le _ _ (rises xs last h i j d le lt) e

-- the elements that pass are those of one range
cut : {X : Type 0} (p : X → Bool) (xs : List X) (i n : ℕ)
    → ((k : ℕ) (d : X) → k < i → k < length xs → p (get_or xs k d) ≡ false)
    → ((k : ℕ) (d : X) → i ≤ k → k < i + n → k < length xs → p (get_or xs k d) ≡ true)
    → ((k : ℕ) (d : X) → i + n ≤ k → k < length xs → p (get_or xs k d) ≡ false)
    → take n (drop i xs) ≡ filter p xs
cut p [] zero zero below inside above = refl
cut p [] zero (suc n) below inside above = refl
cut p [] (suc i) zero below inside above = refl
cut p [] (suc i) (suc n) below inside above = refl
cut p (x ∷ xs) zero zero below inside above =
    rw (above 0 x (omega arith) (omega arith))
    (cut p xs zero zero (λ k d l m. absurd (omega arith)) (λ k d l m n. absurd (omega arith))
    (λ k d l m. above (suc k) d (omega arith) (omega arith)))
cut p (x ∷ xs) zero (suc n) below inside above =
    rw (inside 0 x (omega arith) (omega arith) (omega arith))
    (ap (λ l. x ∷ l) (cut p xs zero n (λ k d l m. absurd (omega arith))
    (λ k d l m q. inside (suc k) d (omega arith) (omega arith) (omega arith))
    (λ k d l m. above (suc k) d (omega arith) (omega arith))))
cut p (x ∷ xs) (suc i) n below inside above =
    rw (below 0 x (omega arith) (omega arith))
    (cut p xs i n (λ k d l m. below (suc k) d (omega arith) (omega arith))
    (λ k d l m q. inside (suc k) d (omega arith) (omega arith) (omega arith))
    (λ k d l m. above (suc k) d (omega arith) (omega arith)))

and_false : (b : Bool) → (b && false) ≡ false
and_false true = refl
and_false false = refl

module _ (first last : List ℕ) (xs : List (List ℕ)) (start end : ℕ)
    (from : IsPartitionPoint (λ id. is_before first id ≡ true) (λ id. is_before first id ≡ false) xs start)
    (past : IsPartitionPoint (λ id. is_up_to last id ≡ true) (λ id. is_up_to last id ≡ false) xs end) where
  below : (k : ℕ) (d : List ℕ) → k < start → is_between first last (get_or xs k d) ≡ false
  below k d l = rw (from.0 k d (omega arith) l) refl

  inside : (k : ℕ) (d : List ℕ) → start ≤ k → k < end → k < length xs
      → is_between first last (get_or xs k d) ≡ true
  inside k d l m n = rw (from.1 k d l n, past.0 k d (omega arith) m) refl

  above : (k : ℕ) (d : List ℕ) → end ≤ k → k < length xs
      → is_between first last (get_or xs k d) ≡ false
  above k d l m = rw (past.1 k d l m) (and_false _)

  pub found : start < end
      → take (end - start) (drop start xs) ≡ filter (is_between first last) xs
  found lt =
      cut (is_between first last) xs start (end - start) (λ k d l m. below k d l)
      (λ k d l m n. inside k d l (omega arith) n) (λ k d l m. above k d (omega arith) m)

  none_at : (k : ℕ) (d : List ℕ) → end ≤ start → k < length xs → (k < start) ⊎ (start ≤ k)
      → is_between first last (get_or xs k d) ≡ false
  none_at k d le m (inl l) = below k d l
  none_at k d le m (inr l) = above k d (omega arith) m

  pub none : end ≤ start → [] ≡ filter (is_between first last) xs
  none le =
      cut (is_between first last) xs 0 0 (λ k d l m. absurd (omega arith))
      (λ k d l m n. absurd (omega arith)) (λ k d l m. none_at k d le m (cases_lt k start))
