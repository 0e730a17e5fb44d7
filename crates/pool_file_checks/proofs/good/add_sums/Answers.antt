use Rattle.std.proofs.Common.{ℕ, length, subst, arith}
use Rattle.pool_file_format.specs.Shown.{objects_of}
use Rattle.pool_file_checks.specs.Own.{objects_in}
use Rattle.pool_file_checks.specs.Quick.{AreGoodBefore}
use Rattle.pool_file_checks.proofs.GoodLemmas.{first_on}
use Rattle.pool_file_checks.proofs.good.add_sums.Goals as goal

pub loop-place-preserved : goal.loop-place-preserved
loop-place-preserved c = λ good few.
    let os = objects_in (objects_of c.args.objects.now) c.args.index.now.entries in
    let old = c.loop-place.sums.items in
    let so = c.loop-place.invariant good few in
    let size = so.1.0 in
    let before = subst (λ (n : ℕ). AreGoodBefore os n old) size so.0.before in
    first_on os c.loop-place.place old _ c.in_ok-add_at.field-0 (length c.args.index.now.entries) so.0 size (let lt = c.loop-place-test.true in omega (arith, lt))
    c.if-not-branch.false (c.in_ok-add_at.ensures.content before) (c.in_ok-add_at.ensures.joins before)

pub returns : goal.returns
returns c = λ good few.
    let so = c.loop-place.invariant good few in
    let size = so.1.0 in let most = so.1.1 in let past = c.loop-place-test.false in
    (so.0, omega (arith, size, most, past))
