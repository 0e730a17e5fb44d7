use Rattle.revisions.proofs.Cuts.{no_other}
use Rattle.revisions.proofs.laws.no_other_parts_spell_it.Goals as goal

pub returns : goal.returns
returns c = no_other
