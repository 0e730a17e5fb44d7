use Rattle.tenant_service.proofs.MergeLemmas.{few-lent, is-received}
use Rattle.tenant_service.proofs.merging.received.Goals as goal

pub table_across-requires-clause-within : goal.table_across-requires-clause-within
table_across-requires-clause-within g c =
    few-lent c.args.from.now c.args.lent.now c.object_count-count.result
    (c.object_count-count.ensures c.args.from.now)

pub returns-clause-ok : goal.returns-clause-ok
returns-clause-ok g c =
    is-received g.N.Naming.digest_of c.args.from.now c.args.pool.now c.table_across.new.pool
    c.args.lent.now c.object_count-count.result c.in_ok-table.table c.in_ok-refs.refs c.new-chain.result
    (c.object_count-count.ensures c.args.from.now) c.in_ok-table.ensures.ok c.in_ok-refs.ensures
    c.new-chain.ensures
