-- The contents of a file, moved into the pool one after another, and released again.
use Rattle.std.proofs.Common.{◌≡◌, ℕ, ◌+◌, ◌<◌, ◌≤◌, ◌^◌, ◌==◌, inl, inr, cond, List, [], ◌∷◌, ◌++◌, length, drop, get_or, Option, None, Some, ◌≢◌, refl, sym, ap, subst, ◌∙◌, append_assoc, arith, length-append}
use Rattle.std.proofs.lemmas.Bool.{cases_eq}
use Rattle.std.proofs.lemmas.Bool.Decides.{nat_tests}
use Rattle.std.proofs.lemmas.List.{map-append, length-map, drop_all}
use Rattle.std.proofs.lemmas.List.Sums.{sum_by_push, count_by-le-length}
use Rattle.content_pool.specs.Pool.{Cells, holds, content, HasHoldsLeft, IsLive, IsVacant, Puts, Releases}
use Rattle.pool_file_format.specs.Format.{RawObject}
use Rattle.pool_file_checks.specs.Checks.{Passes}
use Rattle.pool_file_checks.specs.Objects.{raw_object, object_key, object_checks}
use Rattle.git_model.specs.Content.{name_by}
use Rattle.pool_file_checks.specs.Own.{content_of, names_of}
use Rattle.pool_file_checks.proofs.TenantLemmas.{left_at}
use Rattle.pool_file_checks.proofs.FileContents.{raw_again}
use Rattle.pool_file.specs.Building.{objects_at, times_in}
use Rattle.pool_file.proofs.Slots.{times-cons, times-nil, objects_at-kept}

-- ---- how often a slot is one of some

abbrev one_at : ℕ → ℕ → ℕ
one_at t s = cond (t == s) 1 0

times-push : (slots : List ℕ) (t s : ℕ)
    → times_in (slots ++ t ∷ []) s ≡ times_in slots s + one_at t s
unfolding times_in
times-push slots t s = sum_by_push (λ (x : ℕ). cond (x == s) 1 0) slots t

times-few : (slots : List ℕ) (s : ℕ) → times_in slots s ≤ length slots
unfolding times_in
times-few slots s = count_by-le-length (λ (x : ℕ). x == s) slots

-- one slot more is counted at itself alone
one-here : (t s : ℕ) → s ≡ t → one_at t s ≡ 1
one-here t s same = grind (arith, nat_tests)

none-there : (t s : ℕ) → s ≢ t → one_at t s ≡ 0
none-there t s other = grind (arith, nat_tests)

-- a hold more of one slot alone
held_more : (p q : Cells) (slot : ℕ) → holds q slot ≡ holds p slot + 1 → ((s : ℕ) → s ≢ slot → holds q s ≡ holds p s) → (s : ℕ)
    → holds q s ≡ holds p s + one_at slot s
held_more p q slot held others s = elim (cases_eq s slot) [
  | inl here ↦
      let more : holds q s ≡ holds p s + 1 = ap (holds q) here ∙ held ∙ ap (λ (t : ℕ). holds p t + 1) (sym here) in
      let one = one-here slot s here in
      omega arith
  | inr other ↦
      let same = others s other in
      let none = none-there slot s other in
      omega arith
]

-- ---- contents are moved

-- These slots have the objects before those that are left, and the pool counts a hold for each.
pub record AreStored (pool : Cells) (slots : List ℕ) (rest whole : List RawObject) : Type 0 where
  pub objects : objects_at pool slots ++ rest ≡ whole
  pub counts : (s : ℕ) → holds pool s ≡ times_in slots s
  pub last : Option (List ℕ)
  pub checked : Passes (object_checks last rest)
  pub few : length whole < 2 ^ 64

objects_at-length : (pool : Cells) (slots : List ℕ) → length (objects_at pool slots) ≡ length slots
unfolding objects_at
objects_at-length pool slots = length-map slots (λ s. raw_object (content pool s))

pub stored_none : (pool : Cells) (whole : List RawObject) → IsVacant pool
    → Passes (object_checks None whole) → length whole < 2 ^ 64 → AreStored pool [] whole whole
unfolding objects_at times_in
stored_none pool whole vacant checked few = record {
  objects = refl;
  counts = vacant;
  last = None;
  checked = checked;
  few = few;
}

pub room_to_store : (pool : Cells) (slots : List ℕ) (o : RawObject) (rest whole : List RawObject)
    → AreStored pool slots (o ∷ rest) whole → HasHoldsLeft pool
room_to_store pool slots o rest whole h s =
    let counts = h.counts s in
    let few = h.few in
    let size = objects_at-length pool slots in
    let all = sym (length-append (objects_at pool slots) (o ∷ rest)) ∙ ap (λ (l : List RawObject). length l) h.objects in
    let times = times-few slots s in
    omega arith

pub place_in : (pool : Cells) (slots : List ℕ) (o : RawObject) (rest whole : List RawObject) (digest : List ℕ → List ℕ)
    (names : List (List ℕ)) → AreStored pool slots (o ∷ rest) whole → names ≡ names_of digest whole
    → length slots < length names
place_in pool slots o rest whole digest names h named =
    let size = objects_at-length pool slots in
    let all = sym (length-append (objects_at pool slots) (o ∷ rest)) ∙ ap (λ (l : List RawObject). length l) h.objects in
    let a = ap (λ (l : List (List ℕ)). length l) named in
    let b = length-map whole (λ x. name_by digest (content_of x)) in
    omega arith

skipped : (digest : List ℕ → List ℕ) (xs : List RawObject) (o : RawObject) (rest : List RawObject) (d : List ℕ)
    → get_or (names_of digest (xs ++ o ∷ rest)) (length xs) d ≡ name_by digest (content_of o)
skipped digest [] o rest d = refl
skipped digest (x ∷ xs) o rest d = skipped digest xs o rest d

pub name_in : (pool : Cells) (slots : List ℕ) (o : RawObject) (rest whole : List RawObject) (digest : List ℕ → List ℕ)
    (names : List (List ℕ)) (k : ℕ) (id d : List ℕ) → AreStored pool slots (o ∷ rest) whole → names ≡ names_of digest whole
    → k ≡ length slots → id ≡ get_or names k d → id ≡ name_by digest (content_of o)
name_in pool slots o rest whole digest names k id d h named place is =
    is ∙ ap (λ (i : ℕ). get_or names i d) (place ∙ sym (objects_at-length pool slots))
    ∙ ap (λ (l : List (List ℕ)). get_or l (length (objects_at pool slots)) d) (named ∙ ap (names_of digest) (sym h.objects))
    ∙ skipped digest (objects_at pool slots) o rest d

objects_at-push : (pool : Cells) (slots : List ℕ) (t : ℕ)
    → objects_at pool (slots ++ t ∷ []) ≡ objects_at pool slots ++ raw_object (content pool t) ∷ []
unfolding objects_at
objects_at-push pool slots t = map-append (λ s. raw_object (content pool s)) slots (t ∷ [])

module _ (p q : Cells) (slots : List ℕ) (slot : ℕ) (o : RawObject) (rest whole : List RawObject)
    (h : AreStored p slots (o ∷ rest) whole) (puts : Puts p q slot (content_of o)) where
  kept : (s : ℕ) → 0 < times_in slots s → content q s ≡ content p s
  kept s some =
      let live : IsLive p s = let a = h.counts s in omega arith in
      elim (cases_eq s slot) [
        | inl here ↦
            let was : content p slot ≡ content_of o = puts.had (subst (IsLive p) here live) in
            ap (content q) here ∙ puts.has ∙ sym was ∙ ap (content p) (sym here)
        | inr other ↦ puts.other_contents s other
      ]

  counts_on : (s : ℕ) → holds q s ≡ times_in (slots ++ slot ∷ []) s
  counts_on s =
      let before = h.counts s in
      let push = times-push slots slot s in
      let more = held_more p q slot puts.held puts.others s in
      omega arith

  pub stored_on : AreStored q (slots ++ slot ∷ []) rest whole
  stored_on = record {
    objects =
        ap (λ (l : List RawObject). l ++ rest)
        (objects_at-push q slots slot
        ∙ λ i. objects_at-kept p q slots kept i ++ (ap raw_object puts.has ∙ raw_again o h.checked.0) i ∷ [])
        ∙ append_assoc (objects_at p slots) (o ∷ []) rest ∙ h.objects;
    counts = counts_on;
    last = Some (object_key o);
    checked = h.checked.1.1;
    few = h.few;
  }

-- ---- and released

-- The pool has released a hold of each slot but those that are left.
pub record AreReleased (old pool : Cells) (rest slots : List ℕ) : Type 0 where
  pub counts : (s : ℕ) → holds pool s + times_in slots s ≡ holds old s + times_in rest s
  pub contents : (s : ℕ) → IsLive pool s → content pool s ≡ content old s

pub released_none : (pool : Cells) (slots : List ℕ) → AreReleased pool pool slots slots
released_none pool slots = record { counts = λ s. refl; contents = λ s live. refl }

module _ (old p : Cells) (slots : List ℕ) (i slot : ℕ) (l : i < length slots) (at : slot ≡ get_or slots i slot)
    (h : AreReleased old p (drop i slots) slots) where
  first_of : (s : ℕ) → times_in (drop i slots) s ≡ one_at slot s + times_in (drop (i + 1) slots) s
  first_of s = ap (λ (ts : List ℕ). times_in ts s) (left_at slots i slot l at) ∙ times-cons slot (drop (i + 1) slots) s

  pub live_yet : ((s : ℕ) → times_in slots s ≤ holds old s) → IsLive p slot
  live_yet counted =
      let a = counted slot in
      let b = h.counts slot in
      let c = first_of slot in
      let d = one-here slot slot refl in
      omega arith

  pub released_on : (q : Cells) → Releases p q slot → AreReleased old q (drop (i + 1) slots) slots
  released_on q r = record {
    counts = λ s.
        let before = h.counts s in
        let rest = first_of s in
        let more = held_more q p slot (sym r.held) (λ t other. sym (r.others t other)) s in
        omega arith;
    contents = λ s live. r.contents s live ∙ h.contents s (
        elim (cases_eq s slot) [
          | inl here ↦ let held = r.held in subst (IsLive p) (sym here) (omega arith)
          | inr other ↦ subst (λ (n : ℕ). 0 < n) (r.others s other) live
        ]);
  }

pub released_all : (old p : Cells) (slots : List ℕ) (i : ℕ) → length slots ≤ i
    → AreReleased old p (drop i slots) slots → (s : ℕ) → holds p s + times_in slots s ≡ holds old s
released_all old p slots i past h s =
    let none : times_in (drop i slots) s ≡ 0 = ap (λ (ts : List ℕ). times_in ts s) (drop_all i slots past) ∙ times-nil s in
    let counts = h.counts s in
    omega arith
