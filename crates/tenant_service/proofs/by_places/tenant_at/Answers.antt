use Rattle.tenant_service.proofs.PlaceLemmas.{good-places, is-copy, within-all}
use Rattle.tenant_service.proofs.by_places.tenant_at.Goals as goal

pub copied_table-requires-clause-within : goal.copied_table-requires-clause-within
copied_table-requires-clause-within g c =
    within-all g.N.Naming.digest_of c.args.pool.now c.args.source.now c.requires.stands c.requires.sound
    g.met.N.Naming.answers_names c.args.places.now c.requires.places

pub copied_table-requires-clause-good : goal.copied_table-requires-clause-good
copied_table-requires-clause-good g c =
    good-places g.N.Naming.digest_of c.args.pool.now c.args.source.now c.requires.stands c.requires.sound
    g.met.N.Naming.answers_names c.args.places.now c.requires.places

pub returns-clause-ok : goal.returns-clause-ok
returns-clause-ok g c =
    is-copy g.N.Naming.digest_of c.args.pool.now c.args.source.now c.requires.stands c.requires.sound
    g.met.N.Naming.answers_names c.args.places.now c.requires.places c.copied_table.new.pool
    c.in_ok-table.table c.in_ok-refs.refs c.new-chain.result c.in_ok-table.ensures.ok c.in_ok-refs.ensures
    c.new-chain.ensures
