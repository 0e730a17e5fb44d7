use Rattle.open_commits_tests.proofs.repository.Repository.delete_all.Goals as goal

pub invariant_of-self-2 : goal.invariant_of-self-2
invariant_of-self-2 g c =
    (c.self.invariant.0, c.self.invariant.1, c.put_back.ensures _ (λ _. c.delete_all.ensures.held _))
