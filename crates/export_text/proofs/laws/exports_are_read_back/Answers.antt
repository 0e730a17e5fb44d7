use Rattle.export_text.proofs.Writable.{read-back}
use Rattle.export_text.proofs.laws.exports_are_read_back.Goals as goal

pub returns : goal.returns
returns c = read-back
