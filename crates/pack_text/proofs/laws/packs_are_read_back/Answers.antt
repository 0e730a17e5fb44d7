use Rattle.pack_text.proofs.Packs.{packs-back}
use Rattle.pack_text.proofs.laws.packs_are_read_back.Goals as goal

pub returns : goal.returns
returns c = packs-back
