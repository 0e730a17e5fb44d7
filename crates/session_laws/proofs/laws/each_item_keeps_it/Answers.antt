use Rattle.session_laws.proofs.SoundLemmas.{item_keeps}
use Rattle.session_laws.proofs.laws.each_item_keeps_it.Goals as goal

pub returns : goal.returns
returns c = item_keeps
