use Rattle.std.proofs.Common.{ap, arith}
use Rattle.name_index.specs.Index.{shared_apart}
use Rattle.name_index.proofs.SharedDigits.{reached}
use Rattle.name_index.proofs.run.shared_at.Goals as goal

pub returns-then-place-names-clause-reached : goal.returns-then-place-names-clause-reached
returns-then-place-names-clause-reached c =
    let item = ap (shared_apart c.args.id.now) c.index-names-place.is in
    let among =
    reached c.args.id.now c.args.names.now c.args.place c.index-names-place.result c.if-place-names.true in
    omega (arith, item, among, c.shared_apart.ensures)
