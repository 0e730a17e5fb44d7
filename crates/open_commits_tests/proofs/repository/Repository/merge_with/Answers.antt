use Rattle.open_commits_tests.proofs.repository.Repository.merge_with.Goals as goal

pub invariant_of-self-2 : goal.invariant_of-self-2
invariant_of-self-2 g c = (
  c.self.invariant.0,
  c.self.invariant.1,
  c.answers.ensures _ (λ _. c.merge-answer.ensures.held _ (c.in_ok-commit.ensures.held _ c.self.invariant.2)),
)
