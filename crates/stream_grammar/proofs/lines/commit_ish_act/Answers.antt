use Rattle.stream_grammar.specs.Lines as lines
use Rattle.stream_grammar.specs.Names.{commit_ish_of}
use Rattle.stream_grammar.proofs.Brought.{Brings-Gives}
use Rattle.stream_grammar.proofs.lines.commit_ish_act.Goals as goal

pub returns-in-From-clause-brings : goal.returns-in-From-clause-brings
returns-in-From-clause-brings c =
    rw c.in-From.is
    (Brings-Gives c.from_act.result (commit_ish_of c.args.text.now) (lines.from_act c.args.opened) c.args.mark.now c.from_act.ensures)
