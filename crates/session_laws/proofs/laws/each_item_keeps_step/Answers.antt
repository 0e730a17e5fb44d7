use Rattle.session_laws.proofs.FittingLemmas.{item_in_step}
use Rattle.session_laws.proofs.laws.each_item_keeps_step.Goals as goal

pub returns : goal.returns
returns c = item_in_step
