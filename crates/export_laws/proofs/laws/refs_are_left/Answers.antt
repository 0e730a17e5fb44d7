use Rattle.export_laws.proofs.RefsLeft.{refs-left}
use Rattle.export_laws.proofs.laws.refs_are_left.Goals as goal

pub returns : goal.returns
returns c = refs-left
