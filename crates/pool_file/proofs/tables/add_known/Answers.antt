use Rattle.std.proofs.Common.{ap}
use Rattle.git_model.specs.Content.{Content}
use Rattle.pool_file.proofs.KnownTables.{summed_known, loaded_known}
use Rattle.pool_file.proofs.tables.add_known.Goals as goal

pub add_held-requires-clause-summed : goal.add_held-requires-clause-summed
add_held-requires-clause-summed g c =
    summed_known g.N.Naming.digest_of c.args.pool.now c.args.table.now c.args.slot c.args.sum c.requires.can
    c.get-kind.result.0 c.known_sum.result (ap (λ (x : Content). x.kind) c.get-kind.ensures) c.known_sum.ensures

pub returns : goal.returns
returns g c = λ can.
    loaded_known g.N.Naming.digest_of c.args.pool.now c.args.table.now c.args.slot c.args.sum can
    c.get-kind.result.0 c.known_sum.result (ap (λ (x : Content). x.kind) c.get-kind.ensures) c.known_sum.ensures
    c.add_held.result c.add_held.new.pool c.add_held.new.self c.add_held.ensures.stands c.add_held.ensures.others c.add_held.ensures.ok
