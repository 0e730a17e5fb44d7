use Rattle.std.proofs.Common.{◌≡◌, ◌-◌, ◌+◌, Bool, arith}
use Rattle.std.proofs.lemmas.List.{length-set}
use Rattle.git_model.specs.References.{object_at}
use Rattle.commit_walk.proofs.Walks.{Walk-down, Walk-pass, Walk-end}
use Rattle.commit_walk.proofs.Answers.{Walk-begin}
use Rattle.commit_walk.proofs.reach.walk.Goals as goal
use Rattle.commit_walk.proofs.reach.walk.Goals.{then-flags-place+in_ok-mark_parents, else-flags-place}

pub loop-place-init : goal.loop-place-init
loop-place-init g c = record {
  above = c.requires.above;
  within = omega arith;
  walked = λ good. Walk-begin c.args.objects.now c.args.floor c.args.top c.args.flags.now c.requires.above
      c.requires.within c.requires.blank (good.distinct c.args.top (omega arith))
      (c.args.top + 1 - c.args.floor) (omega arith);
}

pub loop-place-preserved : goal.loop-place-preserved
loop-place-preserved g c = record {
  above = omega arith;
  within = omega arith;
  walked = λ good. elim c.if-flags-place.branch [
    | then-flags-place+in_ok-mark_parents w ↦
        let size = length-set c.args.flags.now (c.args.top - c.args.floor) Bool.true in
        rw w.flags-is (Walk-down _ c.args.objects.now good (object_at c.args.top c.args.objects.now).id
        c.args.floor c.loop-place.place c.loop-place.flags w.mark_parents.new.flags c.loop-place-test.true
        (omega arith) w.if-flags-place.true (c.loop-place.invariant.walked good)
        (w.in_ok-mark_parents.ensures good))
    | else-flags-place w ↦
        rw w.flags-is (Walk-pass _ c.args.objects.now good (object_at c.args.top c.args.objects.now).id
        c.args.floor c.loop-place.place c.loop-place.flags c.loop-place-test.true
        w.if-flags-place.false (c.loop-place.invariant.walked good))
  ];
}

pub returns : goal.returns
returns g c good =
    let inv = c.loop-place.invariant in
    let at : c.loop-place.place + 1 - c.args.floor ≡ 1 = let a = inv.above in omega arith in
    let size = length-set c.args.flags.now (c.args.top - c.args.floor) Bool.true in
    Walk-end _ c.args.objects.now good (object_at c.args.top c.args.objects.now).id c.args.floor
    c.loop-place.flags (omega arith) (rw at at (inv.walked good))
