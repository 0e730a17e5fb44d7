use Rattle.git_model.proofs.CommitTimes.{time_back}
use Rattle.git_model.proofs.laws.written_commits_have_their_time.Goals as goal

pub returns : goal.returns
returns c = time_back
