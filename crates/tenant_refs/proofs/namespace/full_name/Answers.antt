use Rattle.std.proofs.Common.{◌++◌, ap, ◌∙◌}
use Rattle.tenant_refs.specs.FullName.{namespaces, full_name}
use Rattle.tenant_refs.proofs.FullNames.{full_name-one}
use Rattle.tenant_refs.proofs.namespace.full_name.Goals as goal

pub returns-clause-name : goal.returns-clause-name
unfolding full_name
returns-clause-name c =
    c.in_ok-extend_from_slice.ensures.items
    ∙ ap (λ l. l ++ c.as_bytes-2.result.now) (c.in_ok-full.ensures ∙ ap namespaces c.as_bytes.ensures.text)
    ∙ ap (λ r. namespaces c.args.tenant.now ++ r) c.as_bytes-2.ensures.text

pub returns-clause-one : goal.returns-clause-one
returns-clause-one c = full_name-one _ _ _ c.as_bytes-2.ensures.well_formed (returns-clause-name c)
