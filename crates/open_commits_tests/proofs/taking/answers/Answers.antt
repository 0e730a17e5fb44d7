use Rattle.open_commits_tests.proofs.taking.answers.Goals as goal

pub returns : goal.returns
returns c = λ os held. c.put_back.ensures os (λ well. held (c.goes_on_after.ensures well))
