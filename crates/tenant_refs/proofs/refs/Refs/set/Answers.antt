use Rattle.std.proofs.Common.{◌≡◌, ℕ, List, OnErr, Result, Ok, Err, Some, None, set, sym, ap, subst, ◌∙◌}
use Rattle.std.specs.List.{insert}
use Rattle.std.specs.Option.{unwrap_or}
use Rattle.tenant_refs.specs.Place.{IsInOrder, Entries, IsPlaceOf, IsGapFor}
use Rattle.git_model.specs.RefStore.{RefStore, target_of, with_ref, ChangesRef, first_head}
use Rattle.tenant_refs.proofs.Entries.{T-true, true-T}
use Rattle.tenant_refs.proofs.Stores.{store_of, entry-place, set-place, get-gap, insert-gap, ChangesRef-with_ref}
use Rattle.tenant_refs.proofs.refs.Refs.set.Goals as goal

-- the ref is there: its entry takes the target
module _ (c : goal.After-self-1) where
  abbrev entries : Entries
  entries = c.self.inside.entries.items

  abbrev ref : List ℕ
  ref = c.args.ref_name.now

  abbrev head : List ℕ
  head = unwrap_or c.self.inside.head first_head

  at : IsPlaceOf entries ref c.in-Ok.position
  at = subst (λ l. IsPlaceOf l ref c.in-Ok.position) c.deref.ensures.value
      (subst (λ r. IsPlaceOf c.deref.result.now r c.in-Ok.position) c.as_bytes.ensures.text c.in-Ok.ensures.found)

  written : set entries c.in-Ok.position (c.index_mut-entry.result.now.0, c.args.target) ≡ set entries c.in-Ok.position (ref, c.args.target)
  written =
      ap (λ e. set entries c.in-Ok.position (e.0, c.args.target))
      (c.index_mut-entry.ensures.value ∙ entry-place entries (true-T _ c.self.invariant.0) ref _ at c.index_mut-entry.result.now)

  sets : store_of (set entries c.in-Ok.position (c.index_mut-entry.result.now.0, c.args.target)) head ≡ with_ref c.args.self.now ref c.args.target
  sets = ap (λ l. store_of l head) written
      ∙ ap (λ m. let store : RefStore = record { refs = m; head = head } in store)
      (set-place entries (true-T _ c.self.invariant.0) ref _ at c.args.target).1
      ∙ ap (λ store. with_ref store ref c.args.target) c.self.view_is

pub invariant_of-self : goal.invariant_of-self
invariant_of-self c =
    (subst IsInOrder (sym (written c)) (T-true _ (set-place _ (true-T _ c.self.invariant.0) _ _ (at c) c.args.target).0), c.self.invariant.1)

pub returns-in-Ok-clause-set : goal.returns-in-Ok-clause-set
returns-in-Ok-clause-set c = sets c

pub returns-in-Ok-clause-changes : goal.returns-in-Ok-clause-changes
returns-in-Ok-clause-changes c =
    subst (λ new. ChangesRef c.args.self.now new c.args.ref_name.now (Some c.args.target))
    (sym (sets c)) (ChangesRef-with_ref _ _ _)

on_err : {T E : Type 0} (r : Result T E) (P : Type 0) → P → OnErr r P
on_err (Ok x) P p = tt
on_err (Err e) P p = p

-- the ref is not there: it goes into its gap, or no room is found for it
none_there : (es : Entries) (name seen : List ℕ) (view : List (List ℕ × List ℕ)) (i : ℕ)
    (first : List ℕ) (store : RefStore)
    → IsInOrder es → seen ≡ name → view ≡ es → store_of es first ≡ store → IsGapFor view seen i
    → target_of store name ≡ None
none_there es name seen view i first store sorted same viewed is low =
    sym (ap (λ s. target_of s name) is)
    ∙ get-gap es (true-T _ sorted) name i
    (subst (λ l. IsGapFor l name i) viewed (subst (λ r. IsGapFor view r i) same low))

pub returns-in_err-ref_name-in-Err-clause-refused_for_new : goal.returns-in_err-ref_name-in-Err-clause-refused_for_new
returns-in_err-ref_name-in-Err-clause-refused_for_new c =
    on_err _ _
    (none_there _ _ _ _ _ _ _ c.self.invariant.0 c.as_bytes.ensures.text c.deref.ensures.value c.self.view_is c.in-Err.ensures.absent)

pub returns-in_err-insert-in-Err-clause-refused_for_new : goal.returns-in_err-insert-in-Err-clause-refused_for_new
returns-in_err-insert-in-Err-clause-refused_for_new c =
    on_err _ _
    (none_there _ _ _ _ _ _ _ c.self.invariant.0 c.as_bytes.ensures.text c.deref.ensures.value c.self.view_is c.in-Err.ensures.absent)

module _ (c : goal.In_ok-insert-in-Err) where
  gap : IsGapFor c.self.inside.entries.items c.args.ref_name.now c.in-Err.position
  gap = subst (λ l. IsGapFor l c.args.ref_name.now c.in-Err.position) c.deref.ensures.value
      (subst (λ r. IsGapFor c.deref.result.now r c.in-Err.position) c.as_bytes.ensures.text c.in-Err.ensures.absent)

  entered : c.insert.new.self.items ≡ insert c.self.inside.entries.items c.in-Err.position (c.args.ref_name.now, c.args.target)
  entered =
      c.in_ok-insert-in-Err.ensures.items
      ∙ ap
      (λ r. insert c.self.inside.entries.items c.in-Err.position (r, c.args.target)) c.in_ok-ref_name-in-Err.ensures

  inserts : store_of c.insert.new.self.items (unwrap_or c.self.inside.head first_head) ≡ with_ref c.args.self.now c.args.ref_name.now c.args.target
  inserts = ap (λ l. store_of l (unwrap_or c.self.inside.head first_head)) entered
      ∙ ap
      (λ m. let store : RefStore = record { refs = m; head = unwrap_or c.self.inside.head first_head } in store)
      (insert-gap c.self.inside.entries.items (true-T _ c.self.invariant.0) _ _ gap c.args.target).1
      ∙ ap (λ store. with_ref store c.args.ref_name.now c.args.target) c.self.view_is

pub invariant_of-self-in-Continue-branch-2 : goal.invariant_of-self-in-Continue-branch-2
invariant_of-self-in-Continue-branch-2 c =
    (subst IsInOrder (sym (entered c)) (T-true _ (insert-gap _ (true-T _ c.self.invariant.0) _ _ (gap c) c.args.target).0), c.self.invariant.1)

pub returns-in_ok-insert-in-Err-clause-set : goal.returns-in_ok-insert-in-Err-clause-set
returns-in_ok-insert-in-Err-clause-set c = inserts c

pub returns-in_ok-insert-in-Err-clause-changes : goal.returns-in_ok-insert-in-Err-clause-changes
returns-in_ok-insert-in-Err-clause-changes c =
    subst (λ new. ChangesRef c.args.self.now new c.args.ref_name.now (Some c.args.target))
    (sym (inserts c)) (ChangesRef-with_ref _ _ _)
