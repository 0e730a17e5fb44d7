use Rattle.std.proofs.Common.{◌≡◌, None, sym, ap, subst, ◌∙◌}
use Rattle.std.specs.Option.{unwrap_or}
use Rattle.tenant_refs.specs.Place.{IsInOrder, IsPlaceOf, IsGapFor}
use Rattle.git_model.specs.RefStore.{RefStore, target_of, without_ref, ChangesRef, first_head}
use Rattle.tenant_refs.proofs.Entries.{T-true, true-T}
use Rattle.tenant_refs.proofs.Stores.{store_of, remove-place, remove-none, get-gap, ChangesRef-without_ref}
use Rattle.tenant_refs.proofs.refs.Refs.remove.Goals as goal

-- the ref is there, and its entry goes
module _ (c : goal.After-drop-remove) where
  at : IsPlaceOf c.self.inside.entries.items c.args.ref_name.now c.in-Ok.position
  at =
      subst
      (λ l. IsPlaceOf l c.args.ref_name.now c.in-Ok.position) c.deref.ensures.value c.in-Ok.ensures.found

  removes : store_of c.remove.new.self.items (unwrap_or c.self.inside.head first_head) ≡ without_ref c.args.self.now c.args.ref_name.now
  removes = ap (λ l. store_of l (unwrap_or c.self.inside.head first_head)) c.remove.ensures.items
      ∙ ap
      (λ m. let store : RefStore = record { refs = m; head = unwrap_or c.self.inside.head first_head } in store)
      (remove-place _ (true-T _ c.self.invariant.0) _ _ at).1
      ∙ ap (λ store. without_ref store c.args.ref_name.now) c.self.view_is

pub invariant_of-self : goal.invariant_of-self
invariant_of-self c =
    (subst IsInOrder (sym c.remove.ensures.items) (T-true _ (remove-place _ (true-T _ c.self.invariant.0) _ _ (at c)).0), c.self.invariant.1)

pub returns-in-Ok-clause-removed : goal.returns-in-Ok-clause-removed
returns-in-Ok-clause-removed c = removes c

pub returns-in-Ok-clause-changes : goal.returns-in-Ok-clause-changes
returns-in-Ok-clause-changes c =
    subst (λ new. ChangesRef c.args.self.now new c.args.ref_name.now None) (sym (removes c))
    (ChangesRef-without_ref _ _)

-- the ref is not there, and all stays
module _ (c : goal.In-Err) where
  stays : c.args.self.now ≡ without_ref c.args.self.now c.args.ref_name.now
  stays =
      let gap = subst (λ l. IsGapFor l c.args.ref_name.now c.in-Err.field-0) c.deref.ensures.value c.in-Err.ensures.absent in
      let none = sym (ap (λ s. target_of s c.args.ref_name.now) c.self.view_is) ∙ get-gap _ (true-T _ c.self.invariant.0) _ _ gap in
      ap (λ m. let store : RefStore = record { refs = m; head = c.args.self.now.head } in store)
      (sym (remove-none c.args.self.now.refs c.args.ref_name.now none))

pub returns-in-Err-clause-removed : goal.returns-in-Err-clause-removed
returns-in-Err-clause-removed c = stays c

pub returns-in-Err-clause-changes : goal.returns-in-Err-clause-changes
returns-in-Err-clause-changes c =
    subst (λ new. ChangesRef c.args.self.now new c.args.ref_name.now None) (sym (stays c))
    (ChangesRef-without_ref _ _)
