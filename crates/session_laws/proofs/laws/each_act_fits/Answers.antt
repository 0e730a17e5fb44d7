use Rattle.session_laws.proofs.FittingLemmas.{act_fits}
use Rattle.session_laws.proofs.laws.each_act_fits.Goals as goal

pub returns : goal.returns
returns c = act_fits
