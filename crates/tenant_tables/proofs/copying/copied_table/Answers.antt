use Rattle.tenant_tables.proofs.Copies.{if-shared}
use Rattle.tenant_tables.proofs.copying.copied_table.Goals as goal

pub returns-then-are_first-clause-ok : goal.returns-then-are_first-clause-ok
returns-then-are_first-clause-ok g c =
    if-shared g.N.Naming.digest_of c.args.places.now c.args.table.now.entries c.args.pool.now
    c.share.new.pool c.share.result (c.if-are_first.ensures) c.requires.within c.share.ensures.ok
