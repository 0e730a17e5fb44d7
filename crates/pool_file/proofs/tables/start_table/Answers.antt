use Rattle.pool_file.proofs.Starting.{none_made, shared_started}
use Rattle.pool_file.proofs.tables.start_table.Goals as goal

pub returns-then-count-eq0-clause-ok : goal.returns-then-count-eq0-clause-ok
returns-then-count-eq0-clause-ok g c = λ slots numbers alike.
    none_made g.N.Naming.digest_of slots numbers c.args.pool.now c.with_capacity.result c.with_capacity.ensures.entries
    c.with_capacity.ensures.committed

pub returns-clause-ok : goal.returns-clause-ok
returns-clause-ok g c = λ slots numbers alike.
    shared_started g.N.Naming.digest_of slots numbers c.args.pool.now c.share.new.pool
    c.args.other.now.entries c.args.count alike c.share.result c.share.ensures.ok
