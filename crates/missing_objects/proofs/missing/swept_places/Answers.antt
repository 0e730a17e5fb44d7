use Rattle.std.proofs.Common.{◌≡◌, ℕ, Vec, Global, ap, ◌∙◌}
use Rattle.std.proofs.lemmas.Result.{IfOk-weaker}
use Rattle.missing_objects.specs.Marks.{open_places}
use Rattle.missing_objects.specs.Missing.{missing_places}
use Rattle.missing_objects.proofs.Marking.{first-of, none-size}
use Rattle.missing_objects.proofs.Places.{all-listed}
use Rattle.missing_objects.proofs.missing.swept_places.Goals as goal

pub mark_objects-requires : goal.mark_objects-requires
mark_objects-requires g c = record {
  size = none-size c.args.objects.now c.len-len.result c.in_ok-marks.marks c.in_ok-marks.ensures c.len-len.ensures;
}

pub returns : goal.returns
returns g c = λ held.
    let os = c.args.objects.now in
    let first = first-of os c.len-len.result c.in_ok-marks.marks c.mark_objects.new.marks c.mark_objects-2.new.marks
    c.args.wants.now c.args.haves.now c.in_ok-marks.ensures c.len-len.ensures c.mark_objects.ensures.marked c.mark_objects-2.ensures.marked in
    IfOk-weaker c.open_places.result
    (λ (places : Vec ℕ Global). places.items ≡ open_places c.sweep.new.marks c.len-len.result)
    (λ (places : Vec ℕ Global). places.items ≡ missing_places os c.args.wants.now c.args.haves.now)
    (λ places is. is ∙ ap (open_places c.sweep.new.marks) c.len-len.ensures
    ∙ all-listed g.N.Naming.digest_of os held c.args.wants.now c.args.haves.now c.sweep.new.marks
    (c.in_ok-low.ensures.settled held c.args.wants.now c.args.haves.now first))
    (c.open_places.ensures (c.in_ok-low.ensures.none held c.args.wants.now c.args.haves.now first))
