use Rattle.export_text.proofs.ReadBack.{reads-back}
use Rattle.export_text.proofs.laws.items_are_read_back.Goals as goal

pub returns : goal.returns
returns c = reads-back
