use Rattle.export_text.proofs.ExportAsked.{asks-for}
use Rattle.export_text.proofs.laws.exports_ask_for_their_acts.Goals as goal

pub returns : goal.returns
returns c = asks-for
