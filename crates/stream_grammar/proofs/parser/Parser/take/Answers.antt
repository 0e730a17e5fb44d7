use Rattle.std.proofs.Common.{rules, Ok, Err}
use Rattle.stream_lex.specs.Looking.{item_of}
use Rattle.stream_grammar.proofs.Answered.{Leads-answered}
use Rattle.stream_grammar.proofs.parser.Parser.take.Goals as goal

pub returns-in-Some-clause-leads : goal.returns-in-Some-clause-leads
returns-in-Some-clause-leads c stream given =
    Leads-answered stream given _ _ (item_of c.args.item) (Err c.in-Some.answered) (search rules) (search rules)

pub returns-in-Ok-clause-leads : goal.returns-in-Ok-clause-leads
returns-in-Ok-clause-leads c stream given =
    Leads-answered stream given _ _ (item_of c.args.item) (Ok c.in-Ok.done) (search rules) (search rules)

pub returns-in-Err-clause-leads : goal.returns-in-Err-clause-leads
returns-in-Err-clause-leads c stream given =
    Leads-answered stream given _ _ (item_of c.args.item) (Err c.in-Err.fault) (search rules) (search rules)

pub returns-in-Err-Memory : goal.returns-in-Err-Memory
returns-in-Err-Memory c = search rules
