use Rattle.std.proofs.Common.{slice_get}
use Rattle.std.specs.Option.{option_map}
use Rattle.pack_objects.specs.Missing.{told_of}
use Rattle.pack_objects.proofs.MissingTold.{told-more, told-same}
use Rattle.pack_objects.proofs.told.told_at.Goals as goal
use Rattle.pack_objects.proofs.told.told_at.Goals.{in-Some+in_ok-push, in_default}

pub loop-place-preserved : goal.loop-place-preserved
loop-place-preserved g c = elim c.match-told_of.branch [
  | in-Some+in_ok-push w ↦
      rw w.told-is (told-more (λ place. option_map told_of (slice_get c.args.objects.now place)) c.args.places.now c.loop-place.place-index _
      w.in-Some.object c.loop-place.told.items _ c.loop-place-test.true c.loop-place.invariant w.in-Some.ensures w.in_ok-push.ensures.items)
  | in_default w ↦
      rw w.told-is (told-same (λ place. option_map told_of (slice_get c.args.objects.now place)) c.args.places.now c.loop-place.place-index _
      c.loop-place.told.items c.loop-place-test.true c.loop-place.invariant w.in_default.ensures)
]
