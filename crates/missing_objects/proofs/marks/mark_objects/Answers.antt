use Rattle.std.proofs.Common.{ap, ◌∙◌}
use Rattle.std.proofs.lemmas.List.{take_all}
use Rattle.export_text.proofs.Pieces.{next-of}
use Rattle.missing_objects.specs.Marks.{with_marks}
use Rattle.missing_objects.proofs.Marking.{marks-none, one-more}
use Rattle.missing_objects.proofs.marks.mark_objects.Goals as goal

pub loop-id-init : goal.loop-id-init
loop-id-init g c = record { size = c.requires.size; marked = marks-none c.args.with c.args.objects.now c.args.marks.now }

pub loop-id-preserved : goal.loop-id-preserved
loop-id-preserved g c = record {
  size = c.mark_object.ensures.size;
  marked = one-more c.args.with c.args.objects.now c.args.marks.now c.loop-id.marks c.mark_object.new.marks _ _ c.id-item.result
      (next-of c.args.ids.now c.loop-id.id-index c.id-item.result c.loop-id-test.true c.id-item.is)
      c.loop-id.invariant.marked c.mark_object.ensures.marked;
}

pub returns-clause-marked : goal.returns-clause-marked
returns-clause-marked g c =
    c.loop-id.invariant.marked
    ∙ ap (with_marks c.args.with c.args.objects.now c.args.marks.now) (take_all c.loop-id.id-index c.args.ids.now c.loop-id-test.false)
