use Rattle.answers.proofs.answering.answer_along.Goals as goal

pub returns-clause-told : goal.returns-clause-told
returns-clause-told g c = λ held good chain.
    rw c.in_ok-query.ensures (c.tell_committed.ensures.told held (rw c.in_ok-query.ensures at good) chain)
