use Rattle.std.proofs.Common.{◌≡◌, ap, ◌∙◌}
use Rattle.tenant_refs.specs.FullName.{namespaces}
use Rattle.pool_file_checks.proofs.refs.has_good_refs.Goals as goal

pub returns : goal.returns
returns c =
    let same : c.deref-2.result.now ≡ namespaces c.args.tenant.now.name.items =
    c.deref-2.ensures.value ∙ c.in_ok-front.ensures ∙ ap namespaces c.deref.ensures.value in
    rw (← same, ← c.deref-3.ensures.value, ← c.deref-4.ensures.value) c.are_good_refs.ensures
