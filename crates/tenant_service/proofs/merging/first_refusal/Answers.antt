use Rattle.std.proofs.Common.{sym, ◌∙◌}
use Rattle.tenant_tables.proofs.EntryLemmas.{none-from_lookup}
use Rattle.tenant_service.specs.Tenants.{holdings}
use Rattle.tenant_service.proofs.MergeLemmas.{none-more, refused-there}
use Rattle.tenant_service.proofs.merging.first_refusal.Goals as goal

pub returns-then-is_some : goal.returns-then-is_some
returns-then-is_some c = λ pool.
    refused-there (holdings pool c.args.tenants.now.entries) c.args.lent.now c.loop-one.one-index
    c.one-item.result c.refusal_under-refusal.result c.loop-one-test.true c.one-item.is
    (c.loop-one.invariant pool) (c.refusal_under-refusal.ensures pool)
    (sym c.is_some.ensures ∙ c.if-is_some.true)

pub loop-one-preserved : goal.loop-one-preserved
loop-one-preserved c = λ pool.
    none-more (holdings pool c.args.tenants.now.entries) c.args.lent.now c.loop-one.one-index
    c.one-item.result c.loop-one-test.true c.one-item.is (c.loop-one.invariant pool)
    (sym (c.refusal_under-refusal.ensures pool)
    ∙ none-from_lookup c.refusal_under-refusal.result (sym c.is_some.ensures ∙ c.if-is_some.false))
