use Rattle.open_commits.proofs.GoodCommits.{contents_keep}
use Rattle.open_commits.proofs.laws.contents_keep_it.Goals as goal

pub returns : goal.returns
returns c = contents_keep
