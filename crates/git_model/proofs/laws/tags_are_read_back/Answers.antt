use Rattle.git_model.proofs.TagReadings.{tag_back}
use Rattle.git_model.proofs.laws.tags_are_read_back.Goals as goal

pub returns : goal.returns
returns c = tag_back
