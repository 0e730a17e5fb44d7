use Rattle.export_laws.proofs.TagsTold.{tag-told}
use Rattle.export_laws.proofs.laws.tags_are_told.Goals as goal

pub returns : goal.returns
returns c = tag-told
