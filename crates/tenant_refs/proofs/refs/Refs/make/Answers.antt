use Rattle.std.proofs.Common.{◌≡◌, ◌+◌, ◌≤◌, length, sym, ap, subst, ◌∙◌, arith}
use Rattle.std.specs.Vec.{vec_len}
use Rattle.git_model.specs.RefStore.{listed_refs}
use Rattle.tenant_refs.specs.Place.{Entries}
use Rattle.tenant_refs.proofs.Entries.{true-T}
use Rattle.tenant_refs.proofs.Stores.{entries-made}
use Rattle.tenant_refs.proofs.refs.Refs.make.Goals as goal

pub returns-clause-longer : goal.returns-clause-longer
returns-clause-longer c =
    let before : length (listed_refs c.args.self.now) ≡ length c.self.inside.entries.items =
    sym (sym (ap length (entries-made _ (true-T _ c.self.invariant.0)))
    ∙ ap (λ store. length (listed_refs store)) c.self.view_is) in
    let most = length (listed_refs c.args.self.now) + vec_len c.args.changes in
    subst (λ (es : Entries). length es ≤ most)
    (sym (entries-made _ (true-T _ c.change_entries.ensures.in_order)))
    (omega (
      arith,
      before,
      c.change_entries.ensures.longer,
      c.self.inside.entries.ok.0,
      c.change_entries.new.entries.ok.0,
    ))
