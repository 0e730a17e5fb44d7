use Rattle.pool_file.proofs.StoredContents.{live_yet, released_on, released_all}
use Rattle.pool_file.proofs.contents.release_contents.Goals as goal

pub release-requires : goal.release-requires
release-requires g c =
    live_yet c.args.pool.now c.loop-slot.pool c.args.slots.now c.loop-slot.slot-index c.slot-item.result
    c.loop-slot-test.true c.slot-item.is c.loop-slot.invariant c.requires

pub loop-slot-preserved : goal.loop-slot-preserved
loop-slot-preserved g c =
    released_on c.args.pool.now c.loop-slot.pool c.args.slots.now c.loop-slot.slot-index c.slot-item.result
    c.loop-slot-test.true c.slot-item.is c.loop-slot.invariant c.release.new.self c.release.ensures

pub returns-clause-counts : goal.returns-clause-counts
returns-clause-counts g c =
    released_all c.args.pool.now c.loop-slot.pool c.args.slots.now c.loop-slot.slot-index
    c.loop-slot-test.false c.loop-slot.invariant
