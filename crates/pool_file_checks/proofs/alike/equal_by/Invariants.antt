use Rattle.std.proofs.Common.{◌-◌, length}
use Rattle.pool_file_checks.specs.Alike.{Agree}
use Rattle.pool_file_checks.proofs.alike.equal_by.Given as goal

abbrev pub invariant-loop-equal : goal.invariant-loop-equal
invariant-loop-equal l = Agree l.equal l.first l.second

abbrev pub decreases-loop-equal : goal.decreases-loop-equal
decreases-loop-equal l = length l.first - l.equal
