use Rattle.std.proofs.Common.{◌≡◌, ℕ, List, [], ◌∷◌, ◌++◌, set, get_or, append_assoc, sym, ap, subst, ◌∙◌}
use Rattle.std.specs.List.{insert, remove}
use Rattle.git_model.specs.RefStore.{RefMap, RefStore, with_ref, without_ref}
use Rattle.tenant_refs.specs.Changes.{store_of}
use Rattle.tenant_refs.specs.Place.{AreAbove, Entries, IsInOrder, IsPlaceOf, IsGapFor}
use Rattle.tenant_refs.proofs.Entries.{T-true, true-T}
use Rattle.tenant_refs.proofs.Stores.{set-seam, remove-seam, insert-seam, entry-place, set-place, remove-place, insert-gap, get-gap, remove-none}
use Rattle.tenant_refs.proofs.changed_entries.change_entry.Goals as goal

-- what the entries are then, whatever entries above the ref come after
abbrev Is : Entries → Entries → List ℕ → (RefStore → RefStore) → Type 0
Is es new ref change = (rest : Entries) → IsInOrder (es ++ rest) → AreAbove ref rest
    → IsInOrder (new ++ rest)
    × ((head : List ℕ) → store_of (new ++ rest) head ≡ change (store_of (es ++ rest) head))

with_map : RefMap → List ℕ → RefStore
with_map refs head = record { refs = refs; head = head }

-- where a text that was looked for is the ref
same_place : {es view : Entries} {ref seen : List ℕ} {i : ℕ} → view ≡ es → seen ≡ ref
    → IsPlaceOf view seen i → IsPlaceOf es ref i
same_place {es} {view} {ref} {seen} {i} viewed same at =
    subst (λ (l : Entries). IsPlaceOf l ref i) viewed
    (subst (λ (r : List ℕ). IsPlaceOf view r i) same at)

same_gap : {es view : Entries} {ref seen : List ℕ} {i : ℕ} → view ≡ es → seen ≡ ref
    → IsGapFor view seen i → IsGapFor es ref i
same_gap {es} {view} {ref} {seen} {i} viewed same at =
    subst (λ (l : Entries). IsGapFor l ref i) viewed
    (subst (λ (r : List ℕ). IsGapFor view r i) same at)

-- the place and the gap with entries after
abbrev place_before : {es : Entries} {ref : List ℕ} {i : ℕ} (rest : Entries) → IsPlaceOf es ref i
    → IsPlaceOf (es ++ rest) ref i
place_before rest at = record {
  before = at.before;
  target = at.target;
  after = at.after ++ rest;
  stands = ap (λ l. l ++ rest) at.stands ∙ append_assoc at.before _ rest;
  position_is = at.position_is;
}

all_above : (ref : List ℕ) (es rest : Entries) → AreAbove ref es → AreAbove ref rest
    → AreAbove ref (es ++ rest)
all_above ref [] rest h k = k
all_above ref (e ∷ es) rest h k = (h.0, all_above ref es rest h.1 k)

gap_before : {es : Entries} {ref : List ℕ} {i : ℕ} (rest : Entries) → AreAbove ref rest
    → IsGapFor es ref i → IsGapFor (es ++ rest) ref i
gap_before {ref = ref} rest high gap = record {
  before = gap.before;
  after = gap.after ++ rest;
  parts = ap (λ l. l ++ rest) gap.parts ∙ append_assoc gap.before gap.after rest;
  position_is = gap.position_is;
  below = gap.below;
  above = all_above ref gap.after rest gap.above high;
}

-- an edit before them
module _ (es rest : Entries) (ref : List ℕ) (i : ℕ) where
  set_before : (at : IsPlaceOf es ref i) (x : List ℕ × List ℕ)
      → set (es ++ rest) i x ≡ set es i x ++ rest
  set_before at x =
      ap (λ l. set l i x) (place_before rest at).stands
      ∙ set-seam at.before (at.after ++ rest) _ x i at.position_is
      ∙ sym (append_assoc at.before _ rest)
      ∙ ap (λ l. l ++ rest)
      (sym (ap (λ l. set l i x) at.stands ∙ set-seam at.before at.after _ x i at.position_is))

  remove_before : IsPlaceOf es ref i → remove (es ++ rest) i ≡ remove es i ++ rest
  remove_before at =
      ap (λ l. remove l i) (place_before rest at).stands
      ∙ remove-seam at.before (at.after ++ rest) _ i at.position_is
      ∙ sym (append_assoc at.before at.after rest)
      ∙ ap (λ l. l ++ rest)
      (sym (ap (λ l. remove l i) at.stands ∙ remove-seam at.before at.after _ i at.position_is))

  insert_before : (gap : IsGapFor es ref i) (x : List ℕ × List ℕ)
      → insert (es ++ rest) i x ≡ insert es i x ++ rest
  insert_before gap x =
      ap (λ l. insert l i x)
      (ap (λ l. l ++ rest) gap.parts ∙ append_assoc gap.before gap.after rest)
      ∙ insert-seam gap.before (gap.after ++ rest) x i gap.position_is
      ∙ sym (append_assoc gap.before _ rest)
      ∙ ap (λ l. l ++ rest)
      (sym (ap (λ l. insert l i x) gap.parts ∙ insert-seam gap.before gap.after x i gap.position_is))

-- the ref is there: its entry takes the target
set_there : (es : Entries) (ref target : List ℕ) (i : ℕ) (x : List ℕ × List ℕ) → IsInOrder es
    → IsPlaceOf es ref i → x ≡ get_or es i x
    → Is es (set es i (x.0, target)) ref (λ store. with_ref store ref target)
unfolding with_map
set_there es ref target i x first at is rest sorted high =
    let same : x.0 ≡ ref =
    ap (λ (e : List ℕ × List ℕ). e.0) (is ∙ entry-place es (true-T _ first) ref i at x) in
    let set_here = set-place (es ++ rest) (true-T _ sorted) ref i (place_before rest at) target in
    let new = subst (λ (r : List ℕ). set (es ++ rest) i (ref, target) ≡ set es i (r, target) ++ rest)
    (sym same) (set_before es rest ref i at (ref, target)) in (
      subst IsInOrder new (T-true _ set_here.0),
      λ head. ap (λ l. store_of l head) (sym new) ∙ ap (λ (m : RefMap). with_map m head) set_here.1,
    )

-- it goes
taken_out : (es new : Entries) (ref : List ℕ) (i : ℕ) → IsPlaceOf es ref i
    → new ≡ remove es i → Is es new ref (λ store. without_ref store ref)
unfolding with_map
taken_out es new ref i at is rest sorted high =
    let out = remove-place (es ++ rest) (true-T _ sorted) ref i (place_before rest at) in
    let left = remove_before es rest ref i at ∙ ap (λ l. l ++ rest) (sym is) in (
      subst IsInOrder left (T-true _ out.0),
      λ head. ap (λ l. store_of l head) (sym left) ∙ ap (λ (m : RefMap). with_map m head) out.1,
    )

-- it was not there, and goes into its gap
put_in : (es new : Entries) (ref target : List ℕ) (i : ℕ) → IsGapFor es ref i
    → new ≡ insert es i (ref, target) → Is es new ref (λ store. with_ref store ref target)
unfolding with_map
put_in es new ref target i gap is rest sorted high =
    let put = insert-gap (es ++ rest) (true-T _ sorted) ref i (gap_before rest high gap) target in
    let made = insert_before es rest ref i gap (ref, target) ∙ ap (λ l. l ++ rest) (sym is) in (
      subst IsInOrder made (T-true _ put.0),
      λ head. ap (λ l. store_of l head) (sym made) ∙ ap (λ (m : RefMap). with_map m head) put.1,
    )

-- it was not there, and does not come
not_there : (es : Entries) (ref : List ℕ) (i : ℕ) → IsGapFor es ref i
    → Is es es ref (λ store. without_ref store ref)
unfolding with_map
not_there es ref i gap rest sorted high = (
  sorted,
  λ head. ap (λ (m : RefMap). with_map m head)
      (sym (remove-none _ ref
      (get-gap (es ++ rest) (true-T _ sorted) ref i (gap_before rest high gap)))),
)

pub returns-in-Ok-Some-clause-in_order : goal.returns-in-Ok-Some-clause-in_order
returns-in-Ok-Some-clause-in_order c rest sorted high =
    (set_there c.args.entries.now.items c.args.change.ref_name c.in-Ok-Some.target
    c.in-Ok-Some.position c.index_mut-entry.result.now c.requires.in_order
    (same_place c.deref.ensures.value c.as_bytes.ensures.text c.in-Ok-Some.ensures.found)
    c.index_mut-entry.ensures.value rest sorted high).0

pub returns-in-Ok-Some-clause-changed : goal.returns-in-Ok-Some-clause-changed
returns-in-Ok-Some-clause-changed c rest head sorted high =
    rw c.in-Ok-Some.is-1 ((set_there c.args.entries.now.items c.args.change.ref_name c.in-Ok-Some.target
    c.in-Ok-Some.position c.index_mut-entry.result.now c.requires.in_order
    (same_place c.deref.ensures.value c.as_bytes.ensures.text c.in-Ok-Some.ensures.found)
    c.index_mut-entry.ensures.value rest sorted high).1 head)

pub returns-in-Ok-None-clause-in_order : goal.returns-in-Ok-None-clause-in_order
returns-in-Ok-None-clause-in_order c rest sorted high =
    (taken_out c.args.entries.now.items _ c.args.change.ref_name c.in-Ok-None.position
    (same_place c.deref.ensures.value c.as_bytes.ensures.text c.in-Ok-None.ensures.found)
    c.remove.ensures.items rest sorted high).0

pub returns-in-Ok-None-clause-changed : goal.returns-in-Ok-None-clause-changed
returns-in-Ok-None-clause-changed c rest head sorted high =
    rw c.in-Ok-None.is-1 ((taken_out c.args.entries.now.items _ c.args.change.ref_name
    c.in-Ok-None.position
    (same_place c.deref.ensures.value c.as_bytes.ensures.text c.in-Ok-None.ensures.found)
    c.remove.ensures.items rest sorted high).1 head)

pub returns-in-Err-Some-clause-in_order : goal.returns-in-Err-Some-clause-in_order
returns-in-Err-Some-clause-in_order c rest sorted high =
    (put_in c.args.entries.now.items _ c.args.change.ref_name c.in-Err-Some.target
    c.in-Err-Some.position
    (same_gap c.deref.ensures.value c.as_bytes.ensures.text c.in-Err-Some.ensures.absent)
    (rw c.unwrap.ensures at c.insert.ensures.items) rest sorted high).0

pub returns-in-Err-Some-clause-changed : goal.returns-in-Err-Some-clause-changed
returns-in-Err-Some-clause-changed c rest head sorted high =
    rw c.in-Err-Some.is-1 ((put_in c.args.entries.now.items _ c.args.change.ref_name
    c.in-Err-Some.target c.in-Err-Some.position
    (same_gap c.deref.ensures.value c.as_bytes.ensures.text c.in-Err-Some.ensures.absent)
    (rw c.unwrap.ensures at c.insert.ensures.items) rest sorted high).1 head)

pub returns-clause-changed : goal.returns-clause-changed
returns-clause-changed c rest head sorted high =
    rw c.in-Err-None.is-1 ((not_there c.args.entries.now.items c.args.change.ref_name _
    (same_gap c.deref.ensures.value c.as_bytes.ensures.text c.in-Err-None.ensures.absent)
    rest sorted high).1 head)
