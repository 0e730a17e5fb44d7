use Rattle.export_laws.proofs.CloseTold.{commit-told}
use Rattle.export_laws.proofs.laws.commits_are_told.Goals as goal

pub returns : goal.returns
returns c = commit-told
