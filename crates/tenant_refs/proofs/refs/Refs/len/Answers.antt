use Rattle.std.proofs.Common.{length, sym, ap, ◌∙◌}
use Rattle.git_model.specs.RefStore.{listed_refs}
use Rattle.tenant_refs.proofs.Entries.{true-T}
use Rattle.tenant_refs.proofs.Stores.{entries-made}
use Rattle.tenant_refs.proofs.refs.Refs.len.Goals as goal

pub returns : goal.returns
returns c =
    ap length c.as_slice.ensures.value
    ∙ sym (ap length (entries-made _ (true-T _ c.self.invariant.0)))
    ∙ ap (λ store. length (listed_refs store)) c.self.view_is
