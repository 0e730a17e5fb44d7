use Rattle.pool_file_checks.proofs.HeldLemmas.{marked_one}
use Rattle.pool_file_checks.proofs.held.mark.Goals as goal

pub returns-then-place-flags : goal.returns-then-place-flags
returns-then-place-flags c = λ count numbers m. marked_one c.args.flags.now count c.args.number numbers c.if-place-flags.true m
