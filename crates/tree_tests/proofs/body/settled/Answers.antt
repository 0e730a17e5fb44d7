use Rattle.tree_tests.proofs.body.settled.Goals as goal

pub returns-in-Err-Memory : goal.returns-in-Err-Memory
returns-in-Err-Memory c = λ os h. c.clear.ensures.branch os
