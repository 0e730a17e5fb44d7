use Rattle.import_session.proofs.closing.keep_files.Goals as goal

pub returns-in-Ok-clause-branches : goal.returns-in-Ok-clause-branches
returns-in-Ok-clause-branches c os all held =
    c.keep.ensures.branches os all (rw c.into_files.ensures (rw c.in-Ok.is at held))
