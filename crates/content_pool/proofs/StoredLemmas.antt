-- Lemmas on live contents: their number and the sum of their sizes.
use Rattle.std.proofs.Common.{◌≡◌, ℕ, zero, suc, ◌+◌, ◌-◌, ◌^◌, ◌<◌, min, ltb, Bool, true, false, cond, List, [], ◌∷◌, length, map, Some, None, is_some, sum_by, count_by, refl, sym, ap, ◌∙◌, arith, inl, inr, subst, Contains}
use Rattle.std.specs.Bool.{Decides}
use Rattle.std.specs.List.{IsDistinct, filter, filter_map}
use Rattle.std.specs.Str.{bytes_eq}
use Rattle.std.specs.Set.{is_member, unique_keys}
use Rattle.std.specs.Cmp.Lexicographic.{bytes_decides}
use Rattle.std.proofs.lemmas.Bool.{cases_Bool, lt-ltb, ltb-true}
use Rattle.std.proofs.lemmas.Bool.Decides.{same_from_decides, Decides-and, Decides-like}
use Rattle.std.proofs.lemmas.Map.Made.{is_member-Decides}
use Rattle.std.proofs.lemmas.List.Sums.{sum_by-cons}
use Rattle.slab.specs.Slab.{entries_from}
use Rattle.slab.proofs.SlabLemmas.{Contains-cons, Contains-cons_cases}
use Rattle.git_model.specs.declared.kind.Kind.{Kind}
use Rattle.git_model.specs.TagReading.{kind_named_by}
use Rattle.git_model.proofs.TagReadings.{kind_back}
use Rattle.git_model.specs.Kind.{kind_word}
use Rattle.git_model.specs.Content.{Content, content_from}
use Rattle.content_pool.specs.Pool.{Cells, cell, content_of, holds, content, IsLive, HoldsEachOnce}
use Rattle.git_model.specs.Content.{same_content}
use Rattle.content_pool.specs.LiveContents.{stored_sizes, live_contents, ListsLive}
use Rattle.content_pool.proofs.DistinctSums.{length-sum_by, apart_from_absent, unique_keys-distinct, sum_by-unique_keys}
use Rattle.content_pool.specs.declared.stored.Stored.{Stored}

same_kind : (a b : Kind) → Decides (bytes_eq (kind_word a) (kind_word b)) (a ≡ b)
same_kind a b =
    Decides-like (bytes_eq (kind_word a) (kind_word b)) (λ e. sym (kind_back a) ∙ ap kind_named_by e ∙ kind_back b)
    (ap kind_word) (bytes_decides (kind_word a) (kind_word b))

-- The test of two contents answers whether they are equal.
pub same_content-decides : (c d : Content) → Decides (same_content c d) (c ≡ d)
same_content-decides c d =
    Decides-like (same_content c d) (λ parts. alike c.kind d.kind c.bytes d.bytes parts.0 parts.1)
    (λ e. (ap (λ x. x.kind) e, ap (λ x. x.bytes) e))
    (Decides-and _ _ (same_kind c.kind d.kind) (bytes_decides c.bytes d.bytes))
  where
    alike : (j k : Kind) (xs ys : List ℕ) → j ≡ k → xs ≡ ys → content_from j xs ≡ content_from k ys
    alike j k xs ys same_kinds same_bytes = rw (same_kinds, same_bytes)

-- Lists with the same members have the same sizes.
pub stored_sizes-same_members : (cs ds : List Content)
    → ((c : Content) → Contains cs c → Contains ds c)
    → ((c : Content) → Contains ds c → Contains cs c) → stored_sizes cs ≡ stored_sizes ds
unfolding stored_sizes
stored_sizes-same_members cs ds into back =
    let alike : (c : Content) → is_member same_content cs c ≡ is_member same_content ds c = λ c.
    same_from_decides _ _ (is_member-Decides same_content-decides cs c)
    (Decides-like _ (back c) (into c) (is_member-Decides same_content-decides ds c)) in
    let count : length (unique_keys same_content cs) ≡ length (unique_keys same_content ds) =
    sym (length-sum_by (unique_keys same_content cs))
    ∙ sum_by-unique_keys same_content-decides (λ _. 1) cs ds alike
    ∙ length-sum_by (unique_keys same_content ds) in
    let sum = sum_by-unique_keys same_content-decides (λ c. length c.bytes) cs ds alike in
    rw (count, sum)

-- The sizes of a slab's entries are those of its values.
pub entries-sizes : (key : ℕ) (slots : Cells)
    → sum_by (λ e. length e.1.bytes) (entries_from key slots)
    ≡ sum_by (λ e. length e.bytes) (filter_map (λ o. o) slots)
entries-sizes key [] = refl
entries-sizes key (None ∷ rest) = entries-sizes (key + 1) rest
entries-sizes key (Some e ∷ rest) =
    sum_by-cons (λ e. length e.1.bytes) (key, e) (entries_from (key + 1) rest)
    ∙ ap (λ n. length e.bytes + n) (entries-sizes (key + 1) rest)
    ∙ sym (sum_by-cons (λ e. length e.bytes) e (filter_map (λ o. o) rest))

-- What is shown of a pool whose counts are not 0: the contents of all that is stored.
pub live_contents-counted : (p : Cells) → ((s : ℕ) (e : Stored) → cell p s ≡ Some e → 0 < e.holds)
    → live_contents p ≡ map content_of (filter_map (λ o. o) p)
unfolding live_contents
live_contents-counted p counted = ap (λ es. map content_of es) (kept p counted)
  where
    kept : (q : Cells) → ((s : ℕ) (e : Stored) → cell q s ≡ Some e → 0 < e.holds)
        → filter (λ e. ltb 0 e.holds) (filter_map (λ o. o) q) ≡ filter_map (λ o. o) q
    kept [] counted' = refl
    kept (None ∷ rest) counted' = kept rest (λ s. counted' (suc s))
    kept (Some e ∷ rest) counted' =
        rw (lt-ltb 0 e.holds (counted' zero e refl)) (ap (λ es. e ∷ es) (kept rest (λ s. counted' (suc s))))

-- Counts and sizes of the contents are those of what is stored.
pub length-contents : (p : Cells)
    → length (map content_of (filter_map (λ o. o) p)) ≡ count_by is_some p
length-contents [] = refl
length-contents (None ∷ rest) =
    length-contents rest ∙ sym (sum_by-cons (λ o. cond (is_some o) 1 0) None rest ∙ omega arith)
length-contents (Some e ∷ rest) =
    omega (arith, length-contents rest, sum_by-cons (λ o. cond (is_some o) 1 0) (Some e) rest)

pub sizes-contents : (es : List Stored)
    → sum_by (λ c. length c.bytes) (map content_of es) ≡ sum_by (λ e. length e.bytes) es
sizes-contents [] = refl
sizes-contents (e ∷ es) =
    omega
    (arith, sizes-contents es, sum_by-cons (λ c. length c.bytes) (content_of e) (map content_of es), sum_by-cons (λ e. length e.bytes) e es)

-- What is held of what is stored, in the order of the slots.
abbrev held_of : Cells → List Stored
held_of q = filter (λ e. ltb 0 e.holds) (filter_map (λ o. o) q)

listed_live : (q : Cells) (c : Content) → Contains (live_contents q) c
    → (s : ℕ) × IsLive q s × (content q s ≡ c)
unfolding live_contents holds content
listed_live [] c in_list = absurd (omega (arith, in_list.1))
listed_live (None ∷ rest) c in_list = let at = listed_live rest c in_list in (suc at.0, at.1, at.2)
listed_live (Some e ∷ rest) c in_list = by (ltb 0 e.holds) refl (listed_live rest c) in_list
  where
    by : (b : Bool) → ltb 0 e.holds ≡ b
        → (Contains (live_contents rest) c → (s : ℕ) × IsLive rest s × (content rest s ≡ c))
        → Contains (map content_of (cond b (e ∷ held_of rest) (held_of rest))) c
        → (s : ℕ) × IsLive (Some e ∷ rest) s × (content (Some e ∷ rest) s ≡ c)
    by true positive later in_list' =
        elim (Contains-cons_cases (content_of e) c (live_contents rest) in_list') [
          | inl here ↦ (zero, ltb-true 0 e.holds positive, here)
          | inr after ↦ let at = later after in (suc at.0, at.1, at.2)
        ]
    by false none later in_list' = let at = later in_list' in (suc at.0, at.1, at.2)

live_listed : (q : Cells) (s : ℕ) → IsLive q s → Contains (live_contents q) (content q s)
unfolding live_contents holds content
live_listed [] s is_live = absurd (omega (arith, is_live))
live_listed (None ∷ rest) zero is_live = absurd (omega (arith, is_live))
live_listed (None ∷ rest) (suc s) is_live = live_listed rest s is_live
live_listed (Some e ∷ rest) zero is_live = rw (lt-ltb 0 e.holds is_live) (zero, omega arith, refl)
live_listed (Some e ∷ rest) (suc s) is_live = by (ltb 0 e.holds) (live_listed rest s is_live)
  where
    by : (b : Bool) → Contains (live_contents rest) (content rest s)
        → Contains (map content_of (cond b (e ∷ held_of rest) (held_of rest))) (content rest s)
    by true after = Contains-cons (content_of e) (content rest s) (live_contents rest) after
    by false after = after

-- The contents of the live slots are a list of them.
pub ListsLive-live_contents : (p : Cells) → ListsLive p (live_contents p)
ListsLive-live_contents p = record { live = listed_live p; all = live_listed p }

-- Any list of the live contents has the sizes of the one by rising slot.
pub stored_sizes-ListsLive : (p : Cells) (cs : List Content) → ListsLive p cs
    → stored_sizes (live_contents p) ≡ stored_sizes cs
stored_sizes-ListsLive p cs lists =
    stored_sizes-same_members (live_contents p) cs
    (λ c in_live. let at = (ListsLive-live_contents p).live c in_live in subst (λ d. Contains cs d) at.2 (lists.all at.0 at.1))
    (λ c in_list. let at = lists.live c in_list in subst (λ d. Contains (live_contents p) d) at.2 ((ListsLive-live_contents p).all at.0 at.1))

-- Where each content is held once, the live contents have no doubles.
pub IsDistinct-live_contents : (p : Cells) → HoldsEachOnce p
    → IsDistinct same_content (live_contents p)
unfolding live_contents holds content IsDistinct
IsDistinct-live_contents [] once = tt
IsDistinct-live_contents (None ∷ rest) once =
    IsDistinct-live_contents rest
    (λ s t live_s live_t same. omega (arith, once (suc s) (suc t) live_s live_t same))
IsDistinct-live_contents (Some e ∷ rest) once =
    by (ltb 0 e.holds) refl
    (IsDistinct-live_contents rest (λ s t live_s live_t same. omega (arith, once (suc s) (suc t) live_s live_t same)))
  where
    by : (b : Bool) → ltb 0 e.holds ≡ b → IsDistinct same_content (live_contents rest)
        → IsDistinct same_content (map content_of (cond b (e ∷ held_of rest) (held_of rest)))
    by true positive after =
        let new : is_member same_content (live_contents rest) (content_of e) ≡ false =
        elim (cases_Bool (is_member same_content (live_contents rest) (content_of e))) [
          | inl member ↦
              let at =
              listed_live rest (content_of e)
              ((is_member-Decides same_content-decides (live_contents rest) (content_of e)).0 member) in
              absurd
              (omega (arith, once zero (suc at.0) (ltb-true 0 e.holds positive) at.1 (sym at.2)))
          | inr absent ↦ absent
        ] in
        (apart_from_absent same_content (content_of e) (live_contents rest) new, after)
    by false none after = after

-- What a sound pool stores: the number of its contents, and the sum of their sizes.
pub stored_sizes-live_contents : (p : Cells)
    → ((s : ℕ) (e : Stored) → cell p s ≡ Some e → 0 < e.holds) → HoldsEachOnce p
    → stored_sizes (live_contents p)
    ≡ (count_by is_some p, min (sum_by (λ e. length e.bytes) (filter_map (λ o. o) p)) (2 ^ 64 - 1))
unfolding stored_sizes
stored_sizes-live_contents p counted once =
    let all : unique_keys same_content (live_contents p) ≡ map content_of (filter_map (λ o. o) p) =
    unique_keys-distinct same_content (live_contents p) (IsDistinct-live_contents p once)
    ∙ live_contents-counted p counted in
    rw (all, length-contents p, sizes-contents (filter_map (λ o. o) p))
