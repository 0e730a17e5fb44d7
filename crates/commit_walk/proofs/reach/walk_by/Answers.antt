use Rattle.std.proofs.Common.{◌≡◌, ◌-◌, ◌+◌, Bool, arith, ◌∙◌}
use Rattle.std.proofs.lemmas.List.{length-set}
use Rattle.git_model.specs.References.{object_at, parents_of}
use Rattle.commit_walk.proofs.Walks.{Walk-down, Walk-pass, Walk-end}
use Rattle.commit_walk.proofs.Answers.{Walk-begin}
use Rattle.commit_walk.proofs.ParentPlaces.{as_many, row_is}
use Rattle.commit_walk.proofs.reach.walk_by.Goals as goal
use Rattle.commit_walk.proofs.reach.walk_by.Goals.{then-flags-place, else-flags-place}

pub loop-place-init : goal.loop-place-init
loop-place-init c = record {
  above = c.requires.above;
  within = omega arith;
  walked = λ digest os good are.
      let size = as_many os c.args.parents.now are in
      Walk-begin os c.args.floor c.args.top c.args.flags.now c.requires.above c.requires.within c.requires.blank
      (good.distinct c.args.top (let w = c.requires.within in let t = c.requires.there in omega arith))
      (c.args.top + 1 - c.args.floor) (omega arith);
}

pub loop-place-preserved : goal.loop-place-preserved
loop-place-preserved c = record {
  above = omega arith;
  within = let w = c.loop-place.invariant.within in omega arith;
  walked = λ digest os good are.
      let had = c.loop-place.invariant.walked digest os good are in
      let size = as_many os c.args.parents.now are in
      let set_size = length-set c.args.flags.now (c.args.top - c.args.floor) Bool.true in
      let same = c.loop-place.auto.flags in
      let there = c.requires.there in
      elim c.if-flags-place.branch [
        | then-flags-place w ↦
            rw w.flags-is (Walk-down digest os good (object_at c.args.top os).id c.args.floor c.loop-place.place
            c.loop-place.flags w.mark_places.new.flags c.loop-place-test.true (omega arith)
            w.if-flags-place.true had
            (w.mark_places.ensures os (parents_of os (object_at c.loop-place.place os).id) (omega arith)
            (w.deref.ensures.value ∙ row_is os c.args.parents.now c.loop-place.place w.index-parents-place.result are
            (let a = c.loop-place.invariant.within in let b = c.requires.within in omega arith)
            w.index-parents-place.is)))
        | else-flags-place w ↦
            rw w.flags-is (Walk-pass digest os good (object_at c.args.top os).id c.args.floor c.loop-place.place
            c.loop-place.flags c.loop-place-test.true w.if-flags-place.false had)
      ];
}

pub returns : goal.returns
returns c digest os good are =
    let above = c.loop-place.invariant.above in
    let at : c.loop-place.place + 1 - c.args.floor ≡ 1 = omega arith in
    let size = as_many os c.args.parents.now are in
    let set_size = length-set c.args.flags.now (c.args.top - c.args.floor) Bool.true in
    let same = c.loop-place.auto.flags in
    let there = c.requires.there in
    Walk-end digest os good (object_at c.args.top os).id c.args.floor c.loop-place.flags (omega arith)
    (rw at at (c.loop-place.invariant.walked digest os good are))
