use Rattle.tenant_service.proofs.CompactPlaces.{all-so-far, none-so-far, one-off, one-on}
use Rattle.tenant_service.proofs.compacting.flagged_places.Goals as goal
use Rattle.tenant_service.proofs.compacting.flagged_places.Goals.{then-is_reached+in_ok-push, else-is_reached}

pub loop-place-init : goal.loop-place-init
loop-place-init c = λ repository are.
    none-so-far repository c.new-places.result.items c.new-places.ensures.items

pub loop-place-preserved : goal.loop-place-preserved
loop-place-preserved c = λ repository are.
    let i = c.loop-place.place in
    let lt = c.loop-place-test.true in
    let before = c.loop-place.invariant repository are in
    elim c.if-is_reached.branch [
      | then-is_reached+in_ok-push w ↦
          rw w.places-is (one-on repository c.args.flags.now i are lt c.loop-place.places.items before
          _ w.if-is_reached.true w.in_ok-push.ensures.items)
      | else-is_reached w ↦
          rw w.places-is (one-off repository c.args.flags.now i are lt c.loop-place.places.items before
          w.if-is_reached.false)
    ]

pub returns : goal.returns
returns c = λ repository are.
    all-so-far repository c.args.flags.now c.loop-place.place c.loop-place.places.items are
    c.loop-place-test.false (c.loop-place.invariant repository are)
