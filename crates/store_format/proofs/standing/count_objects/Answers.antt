use Rattle.std.proofs.Common.{sym, subst, ◌∙◌}
use Rattle.std.proofs.lemmas.Result.{err_from_is_err_and}
use Rattle.pool_file_format.specs.Taking.{Fails}
use Rattle.store_format.specs.Shown.{records_of}
use Rattle.store_format.proofs.Counts.{counts_so, counts_on, counts_fail, counts_end}
use Rattle.store_format.proofs.standing.count_objects.Goals as goal

pub returns-in_err-count : goal.returns-in_err-count
returns-in_err-count c =
    let p = err_from_is_err_and c.from_residual.result c.from_residual.ensures.1 in
    let failed = rw c.deref.ensures.value at c.in_err-count.ensures in
    rw (p.1, p.2) (subst (Fails c.in_err-count.field-0.0) (c.loop-tenant.invariant ∙ counts_so (records_of c.args.records.now))
    (counts_fail c.loop-tenant.counts.items c.args.records.now c.loop-tenant.tenant-index c.tenant-item.result c.in_err-count.field-0.0 c.loop-tenant-test.true c.tenant-item.is failed))

pub loop-tenant-preserved : goal.loop-tenant-preserved
loop-tenant-preserved c =
    let counted = rw c.deref.ensures.value at c.in_ok-count.ensures in
    rw c.in_ok-push.ensures.items
    (counts_on c.loop-tenant.counts.items c.args.records.now c.loop-tenant.tenant-index c.tenant-item.result c.in_ok-count.count c.loop-tenant-test.true c.tenant-item.is counted ∙ c.loop-tenant.invariant)

pub returns : goal.returns
returns c =
    sym (counts_so (records_of c.args.records.now)) ∙ sym c.loop-tenant.invariant ∙ counts_end c.loop-tenant.counts.items c.args.records.now c.loop-tenant.tenant-index c.loop-tenant-test.false
