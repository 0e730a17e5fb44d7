use Rattle.open_commits.proofs.GoodCommits.{merge_keeps}
use Rattle.open_commits.proofs.laws.a_merge_keeps_it.Goals as goal

pub returns : goal.returns
returns c = merge_keeps
