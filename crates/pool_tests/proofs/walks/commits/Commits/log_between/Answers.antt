use Rattle.pool_tests.proofs.walks.commits.Commits.log_between.Goals as goal

pub of-objects-requires : goal.of-objects-requires
of-objects-requires g c = c.self.invariant.first
