-- The contents in the slots that a save has met, and their order.
use Rattle.std.proofs.Common.{◌≡◌, ◌⊎◌, ℕ, zero, suc, ◌+◌, ◌<◌, ◌≤◌, ◌==◌, inl, inr, Bool, true, false, cond, List, [], ◌∷◌, ◌++◌, map, length, get_or, Option, None, Some, T, refl, sym, ap, subst, ◌∙◌, arith}
use Rattle.std.specs.Prelude.{slice_get, All}
use Rattle.std.specs.List.{AllByRecursion, Contains}
use Rattle.std.specs.List.Sorted.{IsPermutation}
use Rattle.std.specs.Ordering.{is_lt, nat_cmp, ordering_reverse, ordering_then}
use Rattle.std.specs.declared.cmp.Ordering.{Ordering}
use Rattle.std.specs.declared.cmp.Ordering.TheVariants.{Less, Equal, Greater}
use Rattle.std.specs.FinMap.{is_sorted}
use Rattle.std.proofs.lemmas.Bool.{cases_eq}
use Rattle.std.proofs.lemmas.Bool.Decides.{nat_tests}
use Rattle.std.proofs.lemmas.Cmp.{nat_list_cmp_total}
use Rattle.std.proofs.lemmas.List.{get_or-map, length-map, map-append}
use Rattle.std.proofs.lemmas.List.Elements.{All-contains, All-nil, All-push, All-weaker, Contains-append_left, Contains-get_or, Contains-push, recursion_from_All}
use Rattle.std.proofs.lemmas.Option.{slice_get-get_or, slice_get_within}
use Rattle.std.proofs.lemmas.List.Sorted.{All-permutation, Contains-permutation, IsPermutation-map, sum_by-IsPermutation}
use Rattle.content_pool.specs.Pool.{Cells, HoldsEachOnce, IsLive, content}
use Rattle.pool_file_checks.specs.Objects.{object_key, raw_object}
use Rattle.pool_file_checks.specs.FileRefs.{AreRising}
use Rattle.pool_file_checks.proofs.Keys.{key_cmp, key_exact, same_key}
use Rattle.pool_file_checks.proofs.Rising.{rising_more, rising_none, sorted_rising}
use Rattle.pool_file.specs.declared.content.ListedContent.{ListedContent}
use Rattle.pool_file.specs.Building.{times_in}
use Rattle.pool_file.specs.Listing.{IsInOrder}
use Rattle.pool_file.specs.Lent.{object_lent, listed_key}
use Rattle.pool_file.specs.Slots.{AreListed, AreOnce, AreSeen, slots_listed}
use Rattle.pool_file.proofs.Slots.{times-cons, times-nil}

abbrev slot_of : ListedContent → ℕ
slot_of c = c.slot

-- ---- how often a slot stands in a list

times_push : (xs : List ℕ) (x s : ℕ) → times_in (xs ++ x ∷ []) s ≡ times_in xs s + cond (x == s) 1 0
times_push [] x s = times-cons x [] s ∙ (let a = times-nil s in omega (arith, a))
times_push (y ∷ ys) x s =
    let a = times-cons y (ys ++ x ∷ []) s in
    let b = times_push ys x s in
    let c = times-cons y ys s in omega (arith, a, b, c)

times_get : (xs : List ℕ) (j d : ℕ) → j < length xs → 0 < times_in xs (get_or xs j d)
times_get [] j d l = absurd (omega (arith, l))
times_get (x ∷ xs) zero d l = rw (times-cons x xs x) (grind (arith, nat_tests))
times_get (x ∷ xs) (suc j) d l =
    rw (times-cons x xs (get_or xs j d)) (let a = times_get xs j d (omega (arith, l)) in omega (arith, a))

-- a slot at two places stands there twice
pub twice : (xs : List ℕ) (i j d : ℕ) → i < j → j < length xs → get_or xs i d ≡ get_or xs j d
    → 2 ≤ times_in xs (get_or xs j d)
twice [] i j d l m e = absurd (omega (arith, m))
twice (x ∷ xs) i zero d l m e = absurd (omega (arith, l))
twice (x ∷ xs) zero (suc j) d l m e =
    rw (times-cons x xs (get_or xs j d))
    (let a = times_get xs j d (omega (arith, m)) in grind (arith, nat_tests, a, e))
twice (x ∷ xs) (suc i) (suc j) d l m e =
    rw (times-cons x xs (get_or xs j d))
    (let a = twice xs i j d (omega (arith, l)) (omega (arith, m)) e in omega (arith, a))

-- ---- while they are listed

pub item_at : {X : Type 0} (xs : List X) (i : ℕ) (x : X) → i < length xs → x ≡ get_or xs i x
    → slice_get xs i ≡ Some x
item_at xs i x l at = slice_get-get_or xs i x l ∙ ap (λ y. Some y) (sym at)

abbrev IsLent : Cells → ListedContent → Type 0
IsLent pool c = object_lent c.content ≡ raw_object (content pool c.slot)

-- The slot of a content is one of these, and its number is below another.
abbrev IsSeenBelow : List (Option ℕ) → ℕ → ListedContent → Type 0
IsSeenBelow seen next c = (c.slot < next) × (slice_get seen c.slot ≡ Some (Some c.slot))

-- The contents in the slots whose numbers are below a number.
pub record AreBelow (pool : Cells) (seen : List (Option ℕ)) (listed : List ListedContent) (next : ℕ) : Type 0 where
  pub each : All (λ c. object_lent c.content ≡ raw_object (content pool c.slot)) listed
  pub there : All (IsSeenBelow seen next) listed
  pub all : (n s : ℕ) → n < next → slice_get seen n ≡ Some (Some s) → Contains (slots_listed listed) s
  pub once : AreOnce listed

pub below_none : (pool : Cells) (seen : List (Option ℕ)) (listed : List ListedContent) → listed ≡ []
    → AreBelow pool seen listed 0
below_none pool seen listed none =
    subst (λ (l : List ListedContent). AreBelow pool seen l 0) (sym none) (record {
      each = All-nil (IsLent pool);
      there = All-nil (IsSeenBelow seen 0);
      all = λ n s l e. absurd (omega (arith, l));
      once = λ s. let a = times-nil s in omega (arith, a);
    })

-- a place without a slot
pub below_same : (pool : Cells) (seen : List (Option ℕ)) (listed : List ListedContent) (next : ℕ)
    → slice_get seen next ≡ Some None → AreBelow pool seen listed next
    → AreBelow pool seen listed (next + 1)
below_same pool seen listed next none before = record {
  each = before.each;
  there = All-weaker (IsSeenBelow seen next) (IsSeenBelow seen (next + 1))
      (λ c h. (let l = h.0 in omega (arith, l), h.1)) listed before.there;
  all = λ n s l e. all n s l e (cases_eq n next);
  once = before.once;
}
  where
    all : (n s : ℕ) → n < next + 1 → slice_get seen n ≡ Some (Some s) → (n ≡ next) ⊎ (n ≡ next → ⊥)
        → Contains (slots_listed listed) s
    all n s l e (inl same) =
        let at : slice_get seen next ≡ Some (Some s) =
        subst (λ (k : ℕ). slice_get seen k ≡ Some (Some s)) same e in
        let w = sym none ∙ at in cc
    all n s l e (inr never) = before.all n s (grind (arith, nat_tests, l, never)) e

-- the content of one more slot
pub below_more : (pool : Cells) (seen : List (Option ℕ)) (listed new : List ListedContent) (c : ListedContent) (next : ℕ)
    → slice_get seen next ≡ Some (Some c.slot) → c.slot ≡ next
    → object_lent c.content ≡ raw_object (content pool c.slot) → new ≡ listed ++ c ∷ []
    → AreBelow pool seen listed next → AreBelow pool seen new (next + 1)
below_more pool seen listed new c next at is lent pushed before =
    subst (λ (l : List ListedContent). AreBelow pool seen l (next + 1)) (sym pushed) (record {
      each = All-push (IsLent pool) listed c before.each lent;
      there = All-push (IsSeenBelow seen (next + 1)) listed c
          (All-weaker (IsSeenBelow seen next) (IsSeenBelow seen (next + 1)) (λ d h. (let l = h.0 in omega (arith, l), h.1)) listed before.there)
          (omega (arith, is), subst (λ (k : ℕ). slice_get seen k ≡ Some (Some c.slot)) (sym is) at);
      all = λ n s l e. subst (λ (xs : List ℕ). Contains xs s) (sym slots) (all n s l e (cases_eq n next));
      once = λ s. once s (cases_eq c.slot s);
    })
  where
    slots : slots_listed (listed ++ c ∷ []) ≡ slots_listed listed ++ c.slot ∷ []
    slots = map-append slot_of listed (c ∷ [])

    all : (n s : ℕ) → n < next + 1 → slice_get seen n ≡ Some (Some s) → (n ≡ next) ⊎ (n ≡ next → ⊥)
        → Contains (slots_listed listed ++ c.slot ∷ []) s
    all n s l e (inl same) =
        let there : slice_get seen next ≡ Some (Some s) =
        subst (λ (k : ℕ). slice_get seen k ≡ Some (Some s)) same e in
        let both = sym at ∙ there in
        let one : c.slot ≡ s = cc in
        subst (Contains (slots_listed listed ++ c.slot ∷ [])) one (Contains-push (slots_listed listed) c.slot)
    all n s l e (inr never) =
        Contains-append_left (slots_listed listed) (c.slot ∷ []) s
        (before.all n s (grind (arith, nat_tests, l, never)) e)

    none : (xs : List ListedContent) → AllByRecursion (λ d. d.slot < next) xs
        → times_in (slots_listed xs) next ≡ 0
    none [] less = times-nil next
    none (x ∷ xs) less =
        times-cons x.slot (slots_listed xs) next
        ∙ (let a = none xs less.1 in let b = less.0 in grind (arith, nat_tests, a, b))

    once : (s : ℕ) → (c.slot ≡ s) ⊎ (c.slot ≡ s → ⊥) → times_in (slots_listed (listed ++ c ∷ [])) s ≤ 1
    once s (inl same) =
        let a = ap (λ (xs : List ℕ). times_in xs s) slots ∙ times_push (slots_listed listed) c.slot s in
        let b = none listed (recursion_from_All (λ d. d.slot < next) listed
        (All-weaker (IsSeenBelow seen next) (λ d. d.slot < next) (λ d h. h.0) listed before.there)) in
        let t : next ≡ s = sym is ∙ same in
        let z : times_in (slots_listed listed) s ≡ 0 = subst (λ (k : ℕ). times_in (slots_listed listed) k ≡ 0) t b in
        grind (arith, nat_tests, a, z)
    once s (inr never) =
        let a = ap (λ (xs : List ℕ). times_in xs s) slots ∙ times_push (slots_listed listed) c.slot s in
        let b = before.once s in grind (arith, nat_tests, a, b, never)

pub all_below : (pool : Cells) (seen : List (Option ℕ)) (listed : List ListedContent) (next : ℕ) (slots : List ℕ)
    → AreBelow pool seen listed next → length seen ≤ next → AreSeen seen slots → AreListed pool listed slots
all_below pool seen listed next slots below end are = record {
  each = below.each;
  from = All-weaker (IsSeenBelow seen next) (λ c. Contains slots c.slot)
      (λ c h. (are.each c.slot c.slot h.1).1) listed below.there;
  all = λ k d l.
      let s = get_or slots k d in
      let e = are.all s (Contains-get_or slots k d l) in
      below.all s s (let w = slice_get_within seen s (Some s) e in omega (arith, w, end)) e;
  once = below.once;
}

pub below_length : (pool : Cells) (seen : List (Option ℕ)) (listed : List ListedContent) (next : ℕ)
    → AreBelow pool seen listed next → All (λ c. c.slot < length seen) listed
below_length pool seen listed next below =
    All-weaker (IsSeenBelow seen next) (λ c. c.slot < length seen) (λ c h. slice_get_within seen c.slot (Some c.slot) h.1) listed below.there

-- ---- in another order

pub listed_moved : (pool : Cells) (old new : List ListedContent) (slots : List ℕ) → IsPermutation old new
    → AreListed pool old slots → AreListed pool new slots
unfolding times_in
listed_moved pool old new slots moved are = record {
  each = All-permutation (IsLent pool) old new moved are.each;
  from = All-permutation (λ c. Contains slots c.slot) old new moved are.from;
  all = All-weaker (Contains (slots_listed old)) (Contains (slots_listed new)) (λ s c. Contains-permutation (slots_listed old) (slots_listed new) s
      (IsPermutation-map slot_of old new moved) c) slots are.all;
  once = λ s.
      let same = sum_by-IsPermutation (λ (t : ℕ). cond (t == s) 1 0) (slots_listed old) (slots_listed new)
      (IsPermutation-map slot_of old new moved) in
      let one = are.once s in subst (λ (n : ℕ). n ≤ 1) (sym same) one;
}

-- ---- in the order of their keys

abbrev pub listed_cmp : ListedContent → ListedContent → Ordering
listed_cmp a b = ordering_then (key_cmp (listed_key a) (listed_key b)) (nat_cmp a.slot b.slot)

rises : (a b : ListedContent) → is_lt (listed_cmp b a) ≡ false → (listed_key a ≡ listed_key b → ⊥)
    → key_cmp (listed_key a) (listed_key b) ≡ Less
rises a b not_less apart =
    nat_list_cmp_total.antisymm (listed_key a) (listed_key b)
    ∙ ap ordering_reverse (by (key_cmp (listed_key b) (listed_key a)) refl not_less)
  where
    by : (o : Ordering) → key_cmp (listed_key b) (listed_key a) ≡ o
        → is_lt (ordering_then o (nat_cmp b.slot a.slot)) ≡ false
        → key_cmp (listed_key b) (listed_key a) ≡ Greater
    by Less e n = cc
    by Equal e n = absurd (apart (sym (key_exact (listed_key b) (listed_key a) e)))
    by Greater e n = e

abbrev Rise : List ListedContent → Type 0
Rise cs = (k : ℕ) (d : ListedContent) → suc k < length cs
    → key_cmp (listed_key (get_or cs k d)) (listed_key (get_or cs (suc k) d)) ≡ Less

abbrev keyed : List ListedContent → List (List ℕ × ListedContent)
keyed cs = map (λ c. (listed_key c, c)) cs

rise_after : (c : ListedContent) (cs : List ListedContent) → Rise (c ∷ cs)
    → AreRising (Some (listed_key c)) (map (λ e. e.0) (keyed cs))
rise_after c [] up = rising_none (Some (listed_key c))
rise_after c (d ∷ ds) up =
    rising_more (Some (listed_key c)) (listed_key d) (map (λ e. e.0) (keyed ds))
    (up 0 c (omega arith)) (rise_after d ds (λ k e l. up (suc k) e (omega (arith, l))))

rise_all : (cs : List ListedContent) → Rise cs → AreRising None (map (λ e. e.0) (keyed cs))
rise_all [] up = rising_none None
rise_all (c ∷ cs) up =
    rising_more None (listed_key c) (map (λ e. e.0) (keyed cs)) tt (rise_after c cs up)

passes : (b : Bool) → T b → b ≡ true
passes true t = refl
passes false t = absurd t

-- A sort by contents, and then by slots, puts contents in the order of the file, since the pool has
-- never content in two slots.
pub sorted_in_order : (pool : Cells) (listed : List ListedContent) (slots : List ℕ)
    → AreListed pool listed slots → All (IsLive pool) slots → HoldsEachOnce pool
    → ((k : ℕ) (d : ListedContent) → k + 1 < length listed
    → is_lt (listed_cmp (get_or listed (k + 1) d) (get_or listed k d)) ≡ false)
    → IsInOrder listed_key listed
sorted_in_order pool listed slots are live once sorted =
    passes (is_sorted key_cmp (keyed listed)) (sorted_rising None (keyed listed) (rise_all listed rise))
  where
    live_at : (k : ℕ) (d : ListedContent) → k < length listed → IsLive pool (get_or listed k d).slot
    live_at k d l =
        All-contains (IsLive pool) slots (get_or listed k d).slot live (are.from k d l)

    key_at : (k : ℕ) (d : ListedContent) → k < length listed
        → listed_key (get_or listed k d) ≡ object_key (raw_object (content pool (get_or listed k d).slot))
    key_at k d l = ap object_key (are.each k d l)

    apart : (k : ℕ) (d : ListedContent) → suc k < length listed
        → listed_key (get_or listed k d) ≡ listed_key (get_or listed (suc k) d) → ⊥
    apart k d l same =
        let first : k < length listed = omega (arith, l) in
        let one = same_key (content pool (get_or listed k d).slot) (content pool (get_or listed (suc k) d).slot)
        (sym (key_at k d first) ∙ same ∙ key_at (suc k) d l) in
        let slot = once (get_or listed k d).slot (get_or listed (suc k) d).slot
        (live_at k d first) (live_at (suc k) d l) one in
        let a = get_or-map slot_of listed k d d.slot first in
        let b = get_or-map slot_of listed (suc k) d d.slot l in
        let two = twice (slots_listed listed) k (suc k) d.slot (omega arith)
        (let n = length-map listed slot_of in omega (arith, l, n)) (a ∙ slot ∙ sym b) in
        let most = are.once (get_or (slots_listed listed) (suc k) d.slot) in
        omega (arith, two, most)

    rise : Rise listed
    rise k d l =
        let next : k + 1 ≡ suc k = omega arith in
        rises (get_or listed k d) (get_or listed (suc k) d)
        (subst (λ (n : ℕ). is_lt (listed_cmp (get_or listed n d) (get_or listed k d)) ≡ false) next
        (sorted k d (omega (arith, l)))) (apart k d l)
