use Rattle.std.proofs.Common.{arith}
use Rattle.pool_file_format.specs.Shown.{objects_of}
use Rattle.pool_file_checks.specs.Own.{objects_in}
use Rattle.pool_file_checks.proofs.AlikeEntries.{agree_all, leads_on, leads_end}
use Rattle.pool_file_checks.proofs.alike.is_alike.Goals as goal

pub loop-equal-preserved : goal.loop-equal-preserved
loop-equal-preserved c =
    let os = objects_in (objects_of c.args.objects.now) c.args.index.now.entries in
    let left = c.split_at.ensures in let right = c.split_at-in-loop-equal.ensures in
    let more = c.loop-equal-test.true in let same = c.loop-equal.invariant.0 in
    let a = left.back_len in let b = right.back_len in (
      omega (arith, a, b, same),
      rw (left.back, right.back) c.in-Some.ensures.equal,
      rw (left.back, right.back) (leads_on os c.args.place c.args.sums.now c.args.old.now c.args.new.now c.loop-equal.left.now c.loop-equal.right.now c.in-Some.size
          c.loop-equal.invariant.2 (omega (arith, more)) c.in-Some.ensures.alike),
    )

pub returns : goal.returns
returns c =
    let os = objects_in (objects_of c.args.objects.now) c.args.index.now.entries in
    let all = c.loop-equal-test.false in
    leads_end os c.args.place c.args.sums.now c.args.old.now c.args.new.now c.loop-equal.left.now c.loop-equal.right.now c.loop-equal.invariant.2
    (agree_all c.loop-equal.equal c.loop-equal.left.now c.loop-equal.right.now c.loop-equal.invariant.1 c.loop-equal.invariant.0 (omega (arith, all)))
