use Rattle.stream_grammar.proofs.InTurn.{Leads-one}
use Rattle.stream_grammar.proofs.laws.one_more_item.Goals as goal

pub returns : goal.returns
returns c = Leads-one
