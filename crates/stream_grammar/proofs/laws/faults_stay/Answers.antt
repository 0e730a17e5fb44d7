use Rattle.stream_grammar.proofs.InTurn.{commands-Err}
use Rattle.stream_grammar.proofs.laws.faults_stay.Goals as goal

pub returns : goal.returns
returns c = commands-Err
