use Rattle.open_commits.proofs.GoodCommits.{begun_is}
use Rattle.open_commits.proofs.laws.a_commit_begins_good.Goals as goal

pub returns : goal.returns
returns c = begun_is
