use Rattle.std.proofs.Common.{◌-◌, length, sym, ap, ◌∙◌, arith}
use Rattle.export_text.specs.Marking.{with_flags}
use Rattle.export_text.proofs.Reaching.{walked, walk_on, walk_past, walk_ends, walk_reaches}
use Rattle.export_text.proofs.reached.walk.Goals as goal
use Rattle.export_text.proofs.reached.walk.Goals.{then-flags-place+in_ok-ids, else-flags-place}

pub loop-place-preserved : goal.loop-place-preserved
loop-place-preserved g c = elim c.if-flags-place.branch [
  | then-flags-place+in_ok-ids w ↦ record {
    within = let h = c.loop-place.invariant.within in omega arith;
    size = ap length w.flags-is ∙ w.mark_all.auto.flags ∙ c.loop-place.invariant.size;
    walks = λ held. rw w.flags-is
        (walk_on c.args.objects.now c.loop-place.place (c.loop-place.place - 1) c.loop-place.flags w.mark_all.new.flags
        (let h = c.loop-place-test.true in omega arith) w.if-flags-place.true
        (w.mark_all.ensures ∙ ap (with_flags c.args.objects.now c.loop-place.flags) (w.deref.ensures.value ∙ w.in_ok-ids.ensures held))
        ∙ c.loop-place.invariant.walks held);
  }
  | else-flags-place w ↦ record {
    within = let h = c.loop-place.invariant.within in omega arith;
    size = ap length w.flags-is ∙ c.loop-place.invariant.size;
    walks = λ held. rw w.flags-is
        (walk_past c.args.objects.now c.loop-place.place (c.loop-place.place - 1) c.loop-place.flags
        (let h = c.loop-place-test.true in omega arith)
        w.if-flags-place.false ∙ c.loop-place.invariant.walks held);
  }
]

pub returns : goal.returns
returns g c = λ held.
    sym (walk_ends c.args.objects.now c.loop-place.place c.loop-place.flags (omega arith))
    ∙ c.loop-place.invariant.walks held
    ∙ ap (walked c.args.objects.now (length c.args.objects.now)) c.mark_targets.ensures
    ∙ walk_reaches g.N.Naming.digest_of (record { objects = c.args.objects.now; refs = c.args.refs.now }) held
    c.args.flags.now c.requires.blank
