use Rattle.std.proofs.Common.{refl}
use Rattle.revisions.specs.ExpressionReading.{is_colon}
use Rattle.revisions.proofs.Cuts.{first_passes, none_passes}
use Rattle.revisions.proofs.cutting.split_at_colon.Goals as goal

pub returns-in-Some-clause-after : goal.returns-in-Some-clause-after
returns-in-Some-clause-after c =
    let first = first_passes is_colon c.args.text.now c.in-Some.place c.in-Some.ensures in
    rw (first.splits.any first.within, first.place, c.split_at-in-Some.ensures.back) refl

pub returns-in-None-clause-after : goal.returns-in-None-clause-after
returns-in-None-clause-after c = rw (none_passes is_colon c.args.text.now c.in-None.ensures) refl
