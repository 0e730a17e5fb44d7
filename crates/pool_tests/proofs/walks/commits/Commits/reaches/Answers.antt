use Rattle.pool_tests.proofs.walks.commits.Commits.reaches.Goals as goal

pub reaches-requires : goal.reaches-requires
reaches-requires g c = c.self.invariant.first
