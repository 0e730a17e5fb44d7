use Rattle.std.proofs.Common.{◌≡◌, length}
use Rattle.uses.proofs.asking.ask_all.Given as goal

-- a step for each query so far
abbrev pub invariant-loop-query : goal.invariant-loop-query
invariant-loop-query g l = length l.steps.items ≡ l.query-index
