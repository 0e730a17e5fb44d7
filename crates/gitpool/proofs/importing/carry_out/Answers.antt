use Rattle.gitpool.proofs.ImportLemmas.{imported_end, given_up_by}
use Rattle.gitpool.proofs.importing.carry_out.Goals as goal

pub returns-in-Ok : goal.returns-in-Ok
returns-in-Ok g c = λ repository streaming.
    let s = c.in-Ok.ensures.read repository streaming in
    imported_end _ _ repository _ _ _ _ _ _ _ _ s c.end.ensures.taken c.end.result (c.end.ensures.ended repository s.bytes s.streaming)

pub returns-in-Err : goal.returns-in-Err
returns-in-Err g c = λ repository streaming.
    given_up_by _ _ repository _ _ _ _ _ _ _ c.in-Err.fault (c.in-Err.ensures.read repository streaming) c.give_up.ensures
