use Rattle.std.proofs.Math.Seq.{take-length}
use Rattle.revisions.specs.ExpressionReading.{is_mark}
use Rattle.revisions.proofs.Cuts.{first_passes, none_passes, cut-begins}
use Rattle.revisions.proofs.cutting.split_at_mark.Goals as goal

pub returns-in-Some-clause-plain : goal.returns-in-Some-clause-plain
returns-in-Some-clause-plain c =
    let first = first_passes is_mark c.args.text.now c.in-Some.place c.in-Some.ensures in
    rw c.split_at.ensures.front first.splits.before

pub returns-in-Some-clause-marked : goal.returns-in-Some-clause-marked
returns-in-Some-clause-marked c =
    let first = first_passes is_mark c.args.text.now c.in-Some.place c.in-Some.ensures in
    cut-begins _ (rw c.split_at.ensures.back first.splits.at)

pub returns-in-None-clause-plain : goal.returns-in-None-clause-plain
returns-in-None-clause-plain c =
    rw (c.split_at-in-None.ensures.front, take-length c.args.text.now)
    (none_passes is_mark c.args.text.now c.in-None.ensures)
