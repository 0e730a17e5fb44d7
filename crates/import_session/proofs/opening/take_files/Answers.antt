use Rattle.import_session.proofs.opening.take_files.Goals as goal

pub returns-in-None-clause-branches : goal.returns-in-None-clause-branches
returns-in-None-clause-branches c =
    λ os all. ((c.take_kept.ensures os all).0, c.new.ensures.branch os)

pub returns-in-Some-clause-branches : goal.returns-in-Some-clause-branches
returns-in-Some-clause-branches c = λ os all. c.in-Some.ensures os all
