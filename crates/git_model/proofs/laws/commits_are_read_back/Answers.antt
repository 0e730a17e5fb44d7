use Rattle.git_model.proofs.CommitReadings.{commit_back}
use Rattle.git_model.proofs.laws.commits_are_read_back.Goals as goal

pub returns : goal.returns
returns c = commit_back
