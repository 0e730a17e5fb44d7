use Rattle.revisions.proofs.Cuts.{spells}
use Rattle.revisions.proofs.laws.parts_spell_the_text.Goals as goal

pub returns : goal.returns
returns c = spells
