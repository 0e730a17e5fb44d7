use Rattle.std.proofs.Common.{◌∙◌}
use Rattle.tenant_tables.proofs.Copies.{all-added, none-left}
use Rattle.tenant_tables.proofs.copying.separate_table.Goals as goal

pub returns-in-Ok-clause-ok : goal.returns-in-Ok-clause-ok
returns-in-Ok-clause-ok g c =
    all-added g.N.Naming.digest_of c.args.places.now c.args.table.now.entries c.args.pool.now
    c.add_places.new.pool c.add_places.new.made c.commit.new.self c.add_places.ensures.stands
    c.add_places.ensures.others c.in-Ok.ensures.objects c.commit.ensures

pub returns-in-Err-clause-err : goal.returns-in-Err-clause-err
returns-in-Err-clause-err g c =
    none-left g.N.Naming.digest_of c.args.places.now c.args.table.now.entries c.args.pool.now
    c.add_places.new.pool c.roll_back.new.pool c.add_places.new.made c.roll_back.new.self
    c.add_places.ensures.others c.roll_back.ensures.others c.roll_back.ensures.entries
    (c.add_places.ensures.committed ∙ c.new-copy.ensures.committed)
