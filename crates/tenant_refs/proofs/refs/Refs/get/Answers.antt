use Rattle.std.proofs.Common.{Some, sym, ap, subst, ◌∙◌}
use Rattle.tenant_refs.specs.Place.{IsPlaceOf, IsGapFor}
use Rattle.git_model.specs.RefStore.{target_of}
use Rattle.tenant_refs.proofs.Entries.{true-T}
use Rattle.tenant_refs.proofs.Stores.{entry-place, get-place, get-gap}
use Rattle.tenant_refs.proofs.refs.Refs.get.Goals as goal

-- the ref is there, and its entry is the one that was read
pub returns-in-Ok : goal.returns-in-Ok
returns-in-Ok c =
    let sorted = true-T _ c.self.invariant.0 in
    let at = subst (λ l. IsPlaceOf l c.args.ref_name.now c.in-Ok.position) c.deref.ensures.value c.in-Ok.ensures.found in
    ap (λ e. Some e.1) (c.index.ensures ∙ entry-place _ sorted _ _ at c.index.result.now)
    ∙ sym (get-place _ sorted _ _ at)
    ∙ ap (λ store. target_of store c.args.ref_name.now) c.self.view_is

-- the ref is not there
pub returns-in-Err : goal.returns-in-Err
returns-in-Err c =
    let gap = subst (λ l. IsGapFor l c.args.ref_name.now c.in-Err.field-0) c.deref.ensures.value c.in-Err.ensures.absent in
    sym (get-gap _ (true-T _ c.self.invariant.0) _ _ gap)
    ∙ ap (λ store. target_of store c.args.ref_name.now) c.self.view_is
