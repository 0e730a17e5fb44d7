use Rattle.pack_text.proofs.Packs.{entries-back}
use Rattle.pack_text.proofs.laws.entries_are_read_back.Goals as goal

pub returns : goal.returns
returns c = entries-back
