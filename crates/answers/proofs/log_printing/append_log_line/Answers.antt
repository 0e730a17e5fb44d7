use Rattle.answers.proofs.log_printing.append_log_line.Goals as goal

pub returns-in-Some-clause-written : goal.returns-in-Some-clause-written
returns-in-Some-clause-written g c = λ is.
    rw (← c.in-Some.ensures, ← c.subject_of.ensures) c.append_line_of.ensures.written
