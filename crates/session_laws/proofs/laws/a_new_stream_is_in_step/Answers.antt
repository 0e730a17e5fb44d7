use Rattle.session_laws.proofs.FittingLemmas.{new_in_step}
use Rattle.session_laws.proofs.laws.a_new_stream_is_in_step.Goals as goal

pub returns : goal.returns
returns c = new_in_step
