use Rattle.std.proofs.Common.{arith}
use Rattle.pool_file.proofs.Slots.{slots_live}
use Rattle.pool_file.proofs.building.build_next.Goals as goal

pub build_beside-requires-clause-live : goal.build_beside-requires-clause-live
build_beside-requires-clause-live g c =
    slots_live c.args.pool.now c.args.slots.now
    (λ s. let a = c.requires.under.counts s in omega arith)

pub build_alone-requires-clause-live : goal.build_alone-requires-clause-live
build_alone-requires-clause-live g c =
    slots_live c.args.pool.now c.args.slots.now
    (λ s. let a = c.requires.under.counts s in omega arith)
