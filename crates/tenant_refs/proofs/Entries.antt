-- Lists of entries in the order of their keys, cut at the place of a key: what `put` and `find`
-- make of them.
use Rattle.std.proofs.Common.{◌≡◌, Bool, true, false, ◌&&◌, cond, T, List, [], ◌∷◌, ◌++◌, Option, None, Some, refl, sym, ap, subst, ◌∙◌}
use Rattle.std.specs.declared.cmp.Ordering.{Ordering}
use Rattle.std.specs.declared.cmp.Ordering.TheVariants.{Less, Equal, Greater}
use Rattle.std.specs.Ordering.{is_lt, is_eq, ordering_reverse, eq_by_cmp}
use Rattle.std.specs.List.{AllByRecursion}
use Rattle.std.specs.Cmp.{IsTotalOrder}
use Rattle.std.proofs.lemmas.Cmp.{tied_itself}
use Rattle.std.specs.FinMap.Entries.{put, find, is_sorted, below_all}
use Rattle.std.specs.FinMap.{IsAntisymmetric}

pub T-true : (b : Bool) → T b → b ≡ true
T-true true h = refl
T-true false h = absurd h

pub true-T : (b : Bool) → b ≡ true → T b
true-T b e = subst T (sym e) tt

pub both : (a b : Bool) → T a → T b → T (a && b)
both true b p q = q
both false b p q = p

pub first : (a b : Bool) → T (a && b) → T a
first true b p = tt
first false b p = p

pub second : (a b : Bool) → T (a && b) → T b
second true b p = p
second false b p = absurd p

pub less : (o : Ordering) → T (is_lt o) → o ≡ Less
less Less p = refl
less Equal p = absurd p
less Greater p = absurd p

pub equal : (r : Ordering) → is_eq r ≡ true → r ≡ Equal
equal Less e = cc
equal Equal e = refl
equal Greater e = cc

module _ {X : Type 0} where
  -- where two tests do not both pass, it does not matter which is asked first
  asked_first : (a b : Bool) (x y z : Option X) → (a ≡ true → b ≡ true → ⊥) → y ≡ cond b None z
      → cond a x y ≡ cond b None (cond a x z)
  asked_first true true x y z apart rest = absurd (apart refl refl)
  asked_first true false x y z apart rest = refl
  asked_first false b x y z apart rest = rest

  asked_twice : (b : Bool) (x y : Option X) → (b ≡ true → y ≡ None) → y ≡ cond b None (cond b x y)
  asked_twice true x y none = none refl
  asked_twice false x y none = refl

above : {K : Type 0} {R : K → K → Ordering} → IsTotalOrder R → (x k : K) → R x k ≡ Less
    → R k x ≡ Greater
above o x k e = o.antisymm k x ∙ ap ordering_reverse e

not_tied : {K : Type 0} {R : K → K → Ordering} → IsAntisymmetric R → (k q x : K) → R k x ≡ Greater
    → is_eq (R q x) ≡ true → is_eq (R q k) ≡ true → ⊥
not_tied {R = R} same k q x up e f =
    let here = same q k (equal _ f) in
    let along : R k x ≡ Equal = subst (λ z. R z x ≡ Equal) here (equal (R q x) e) in
    cc

module _ {K X : Type 0} (R : K → K → Ordering) where
  -- the keys of these entries come before k, or after it
  abbrev pub AllBefore : K → List (K × X) → Type 0
  AllBefore k = AllByRecursion (λ e. R k e.0 ≡ Greater)

  abbrev pub AllAfter : K → List (K × X) → Type 0
  AllAfter k = AllByRecursion (λ e. R k e.0 ≡ Less)

  pub after-below_all : (k : K) (es : List (K × X)) → T (below_all R k es) → AllAfter k es
  after-below_all k [] h = tt
  after-below_all k (e ∷ es) h = (less _ (first _ _ h), after-below_all k es (second _ _ h))

  -- a key in its gap: `put` puts it there, and `find` finds nothing
  pub put-gap : (k : K) (v : X) (before after : List (K × X)) → AllBefore k before
      → AllAfter k after
      → put R k v (before ++ after) ≡ before ++ (k, v) ∷ after
  put-gap k v [] [] low high = refl
  put-gap k v [] (e ∷ es) low high = rw high.0
  put-gap k v (e ∷ es) after low high =
      rw low.0 (ap (λ rest. e ∷ rest) (put-gap k v es after low.1 high))

  pub find-after : (k : K) (es : List (K × X)) → AllAfter k es → find R k es ≡ None
  find-after k [] high = refl
  find-after k (e ∷ es) high = rw high.0 (find-after k es high.1)

  pub find-gap : (k : K) (before after : List (K × X)) → AllBefore k before → AllAfter k after
      → find R k (before ++ after) ≡ None
  find-gap k [] after low high = find-after k after high
  find-gap k (e ∷ es) after low high = rw low.0 (find-gap k es after low.1 high)

  module _ (o : IsTotalOrder R) where
    below_one : (x k : K) (v : X) (before after : List (K × X))
        → T (below_all R x (before ++ (k, v) ∷ after)) → R x k ≡ Less
    below_one x k v [] after h = less _ (first _ _ h)
    below_one x k v (e ∷ es) after h = below_one x k v es after (second _ _ h)

    -- in order, what stands in front of an entry comes before it, and what stands after comes
    -- after it
    pub before-sorted : (k : K) (v : X) (before after : List (K × X))
        → T (is_sorted R (before ++ (k, v) ∷ after)) → AllBefore k before
    before-sorted k v [] after h = tt
    before-sorted k v (e ∷ es) after h =
        (above o e.0 k (below_one e.0 k v es after (first _ _ h)), before-sorted k v es after (second _ _ h))

    pub after-sorted : (k : K) (v : X) (before after : List (K × X))
        → T (is_sorted R (before ++ (k, v) ∷ after)) → AllAfter k after
    after-sorted k v [] after h = after-below_all k after (first _ _ h)
    after-sorted k v (e ∷ es) after h = after-sorted k v es after (second _ _ h)

    -- a key in its place: `put` gives it the new value, and `find` finds the old one
    pub put-place : (k : K) (v w : X) (before after : List (K × X)) → AllBefore k before
        → put R k w (before ++ (k, v) ∷ after) ≡ before ++ (k, w) ∷ after
    put-place k v w [] after low = rw (tied_itself o k)
    put-place k v w (e ∷ es) after low =
        rw low.0 (ap (λ rest. e ∷ rest) (put-place k v w es after low.1))

    pub find-place : (k : K) (v : X) (before after : List (K × X)) → AllBefore k before
        → find R k (before ++ (k, v) ∷ after) ≡ Some v
    find-place k v [] after low = rw (tied_itself o k)
    find-place k v (e ∷ es) after low = rw low.0 (find-place k v es after low.1)

    -- an entry taken out
    below_out : (x k : K) (v : X) (before after : List (K × X))
        → T (below_all R x (before ++ (k, v) ∷ after)) → T (below_all R x (before ++ after))
    below_out x k v [] after h = second _ _ h
    below_out x k v (e ∷ es) after h =
        both _ _ (first _ _ h) (below_out x k v es after (second _ _ h))

    pub is_sorted-out : (k : K) (v : X) (before after : List (K × X))
        → T (is_sorted R (before ++ (k, v) ∷ after)) → T (is_sorted R (before ++ after))
    is_sorted-out k v [] after h = second _ _ h
    is_sorted-out k v (e ∷ es) after h =
        both _ _ (below_out e.0 k v es after (first _ _ h))
        (is_sorted-out k v es after (second _ _ h))

    pub second-above : (e f : K × X) (es : List (K × X)) → T (is_sorted R (e ∷ (f ∷ es)))
        → R f.0 e.0 ≡ Greater
    second-above e f es h = above o e.0 f.0 (less _ (first _ _ (first _ _ h)))

    pub sorted_tail : (e : K × X) (es : List (K × X)) → T (is_sorted R (e ∷ es))
        → T (is_sorted R es)
    sorted_tail e es h = second _ _ h

    module _ (same : IsAntisymmetric R) where
      after_tied : (k q : K) (es : List (K × X)) → AllAfter k es → eq_by_cmp R q k ≡ true
          → find R q es ≡ None
      after_tied k q es high e =
          subst (λ x. find R x es ≡ None) (sym (same q k (equal _ e))) (find-after k es high)

      pub find-out : (k : K) (v : X) (before after : List (K × X)) → AllBefore k before
          → AllAfter k after
          → (q : K)
          → find R q (before ++ after) ≡ cond (eq_by_cmp R q k) None (find R q (before ++ (k, v) ∷ after))
      find-out k v [] after low high q = asked_twice _ _ _ (after_tied k q after high)
      find-out k v (e ∷ es) after low high q =
          asked_first _ _ _ _ _ (not_tied same k q e.0 low.0) (find-out k v es after low.1 high q)
