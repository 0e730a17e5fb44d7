use Rattle.session_laws.proofs.SoundLemmas.{end_keeps}
use Rattle.session_laws.proofs.laws.each_end_keeps_it.Goals as goal

pub returns : goal.returns
returns c = end_keeps
