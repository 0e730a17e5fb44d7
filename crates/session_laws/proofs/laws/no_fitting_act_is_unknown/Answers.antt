use Rattle.session_laws.proofs.KnownLemmas.{not_refused}
use Rattle.session_laws.proofs.laws.no_fitting_act_is_unknown.Goals as goal

pub returns : goal.returns
returns c = not_refused
