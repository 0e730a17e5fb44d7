use Rattle.std.proofs.Common.{◌≡◌, take}
use Rattle.missing_objects.specs.Marks.{AreMarksOf, with_marks}
use Rattle.missing_objects.proofs.marks.mark_objects.Given as goal

abbrev pub invariant-loop-id : goal.invariant-loop-id
invariant-loop-id g l = record {
  size : AreMarksOf l.objects l.marks;
  marked : l.marks ≡ with_marks l.with l.objects l.initial.marks (take l.id-index l.ids);
}
