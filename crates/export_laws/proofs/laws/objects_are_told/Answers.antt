use Rattle.export_laws.proofs.WholeTold.{are-saved}
use Rattle.export_laws.proofs.laws.objects_are_told.Goals as goal

pub returns : goal.returns
returns c = are-saved
