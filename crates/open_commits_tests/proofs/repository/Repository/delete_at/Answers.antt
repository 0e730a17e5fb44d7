use Rattle.open_commits_tests.proofs.repository.Repository.delete_at.Goals as goal

pub invariant_of-self-2 : goal.invariant_of-self-2
invariant_of-self-2 g c =
    (c.self.invariant.0, c.self.invariant.1, c.answers.ensures _ c.delete-answer.ensures.held)
