use Rattle.std.proofs.Common.{Some, option_map, slice_get, sym, ap, subst, refl, ◌∙◌}
use Rattle.std.proofs.lemmas.Bool.{ltb-true}
use Rattle.std.proofs.lemmas.Option.{slice_get_past, slice_get_read}
use Rattle.tenant_refs.specs.StoredName.{NamesRef}
use Rattle.git_model.specs.RefStore.{listed_refs}
use Rattle.tenant_refs.proofs.Entries.{true-T}
use Rattle.tenant_refs.proofs.Stores.{entries-made}
use Rattle.tenant_refs.proofs.refs.Refs.at.Goals as goal

-- the position is past the last ref
pub returns-in_err-ref_name-clause-entry : goal.returns-in_err-ref_name-clause-entry
returns-in_err-ref_name-clause-entry c =
    ap (option_map _) c.from_residual.ensures
    ∙ sym (slice_get_past c.deref.result.now c.args.position c.in_err-ref_name.ensures.lookup.3)
    ∙ ap (λ l. slice_get l c.args.position)
    (c.deref.ensures.value ∙ sym (entries-made _ (true-T _ c.self.invariant.0)) ∙ ap listed_refs c.self.view_is)

-- the entry that was read is the one at the position
pub returns-clause-entry : goal.returns-clause-entry
returns-clause-entry c =
    let found = c.in_ok-ref_name.ensures.lookup in
    ap (λ t. Some (t, c.in_ok-ref_name.field-0.now.1)) c.as_bytes.ensures.text
    ∙ sym
    (slice_get_read c.deref.result.now _ c.args.position c.in_ok-ref_name.field-0.now refl (ltb-true _ _ (sym found.0)) found.1)
    ∙ ap (λ l. slice_get l c.args.position)
    (c.deref.ensures.value ∙ sym (entries-made _ (true-T _ c.self.invariant.0)) ∙ ap listed_refs c.self.view_is)

pub returns-clause-well_formed : goal.returns-clause-well_formed
returns-clause-well_formed c =
    subst NamesRef (sym c.as_bytes.ensures.text) c.as_bytes.ensures.well_formed
