use Rattle.std.proofs.Common.{refl}
use Rattle.pool_tests.proofs.TwoTables.{Share-nil}
use Rattle.pool_tests.proofs.walks.commits.Commits.new.Goals as goal

pub invariant_of-result : goal.invariant_of-result
invariant_of-result g c = Share-nil _ _ _ _ c.new.ensures c.new-2.ensures.entries refl
