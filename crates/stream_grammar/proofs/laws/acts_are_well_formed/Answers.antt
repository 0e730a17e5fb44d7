use Rattle.stream_grammar.proofs.WellFormedActs.{well_formed}
use Rattle.stream_grammar.proofs.laws.acts_are_well_formed.Goals as goal

pub returns : goal.returns
returns c = well_formed
