use Rattle.std.proofs.Common.{ap, arith}
use Rattle.name_index.specs.Index.{most_shared}
use Rattle.name_index.proofs.SharedDigits.{max_is, one_run_more}
use Rattle.name_index.proofs.index.most_in_runs.Goals as goal

pub loop-run-preserved : goal.loop-run-preserved
loop-run-preserved c =
    let within = c.loop-run-test.true in
    let more = one_run_more c.args.id.now c.args.runs.now c.loop-run.run-index c.run-item.result (omega arith) in
    omega (arith, ap (most_shared c.args.id.now) c.run-item.is, c.loop-run.invariant, more, c.most_shared.ensures, c.max-most.ensures, max_is)
