use Rattle.stream_grammar.proofs.InTurn.{commands-append}
use Rattle.stream_grammar.proofs.laws.in_turn.Goals as goal

pub returns : goal.returns
returns c = commands-append
