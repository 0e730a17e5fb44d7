use Rattle.open_commits.proofs.GoodCommits.{longer_is}
use Rattle.open_commits.proofs.laws.more_objects_keep_it.Goals as goal

pub returns : goal.returns
returns c = longer_is
