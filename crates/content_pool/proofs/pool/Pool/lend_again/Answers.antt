use Rattle.std.proofs.Common.{sym, ap, ◌∙◌, subst}
use Rattle.std.proofs.lemmas.Option.{same_Some}
use Rattle.content_pool.specs.Pool.{Cells}
use Rattle.content_pool.specs.Index.{IsPool, IsIndexed}
use Rattle.content_pool.specs.declared.stored.Stored.{Stored}
use Rattle.content_pool.proofs.PoolLemmas.{set_as_was}
use Rattle.content_pool.proofs.pool.Pool.lend_again.Goals as goal

pub invariant_of-self : goal.invariant_of-self
invariant_of-self g c =
    let e : Stored = c.index_mut.result.now in
    let there = same_Some _ _ (sym c.index.ensures ∙ c.index_mut.ensures.value) in
    let bytes = sym (sym (ap (λ (o : Stored). o.bytes) there) ∙ c.has_bytes.ensures.0 c.if-not-has_bytes.false ∙ sym c.lent.ensures) in
    let same = set_as_was c.self.inside.cells.slots c.slot.inside.key e (record e { bytes = c.lent.result }) c.index_mut.ensures.value
    (ap (λ b. record e { bytes = b }) bytes) in
    subst (λ (p : Cells). IsPool g.N.Naming.digest_of p × IsIndexed p c.self.inside.buckets.entries) (sym same) c.self.invariant

pub returns-clause-same : goal.returns-clause-same
returns-clause-same g c =
    let e : Stored = c.index_mut.result.now in
    let there = same_Some _ _ (sym c.index.ensures ∙ c.index_mut.ensures.value) in
    let bytes = sym (sym (ap (λ (o : Stored). o.bytes) there) ∙ c.has_bytes.ensures.0 c.if-not-has_bytes.false ∙ sym c.lent.ensures) in
    set_as_was c.self.inside.cells.slots c.slot.inside.key e (record e { bytes = c.lent.result }) c.index_mut.ensures.value
    (ap (λ b. record e { bytes = b }) bytes) ∙ c.self.view_is
