use Rattle.std.proofs.Common.{arith}
use Rattle.commit_walk.proofs.ParentPlaces.{one_mark}
use Rattle.commit_walk.proofs.marks.mark_places.Goals as goal

pub loop-place-preserved : goal.loop-place-preserved
loop-place-preserved c os ids room are =
    let same = c.loop-place.auto.flags in
    one_mark os c.args.floor c.args.flags.now c.loop-place.flags c.mark_place.new.flags c.args.places.now ids
    c.loop-place.place-index c.loop-place-test.true are (c.loop-place.invariant os ids room are)
    (λ id at. c.mark_place.ensures os id (omega (arith, room, same)) at)
